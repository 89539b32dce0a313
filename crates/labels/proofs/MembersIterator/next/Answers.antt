-- The least member is as many places up as the number ends in zeros; what is left is the number without its lowest 1.
use Rattle.std.proofs.Common.{arith}
use Rattle.sets.proofs.Least.{least_below, least_in, least_out}
use Rattle.labels.proofs.Sets.{in_set_rest}
use Rattle.labels.proofs.MembersIterator.next.Goals as goal

pub returns-clause-steps : goal.returns-clause-steps
returns-clause-steps c =
    let b = least_below 64 c.args.self.now.rest (omega arith) (omega arith) in
    (b, least_in 64 c.args.self.now.rest b, λ x. in_set_rest c.args.self.now.rest x (omega arith) (omega arith), least_out 64 c.args.self.now.rest)
