-- The numbers of the entries passed stand behind the text, each in at most 6 bytes, so that there is room for the rest.
use Rattle.text.specs.Put.{Put}
use Rattle.planning.specs.Listing.{numbers}
use Prim.Native.Nat.{◌+◌, ◌*◌, ◌≤◌}
use lib.ListN.{take}
use Rattle.text.proofs.put_list.Given as goal

abbrev pub invariant-loop-n : goal.invariant-loop-n
invariant-loop-n l = Put l.initial.out l.at (numbers (take l.n-index l.list)) l.out l.end × (l.end ≤ l.at + 6 * l.n-index)
