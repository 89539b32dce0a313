-- Header, variables and the rest one after the other; where one does not pass, the record is not accepted.
use mathlib.Core.Path.{refl, sym, ◌∙◌}
use native.Mathlib.Omega.{arith}
use Rattle.record.proofs.Laws.{false_not, split_22, header_sound, header_exact, header_fits, no_counts_lem, accepted_parts}
use Rattle.loader.proofs.load.Goals as goal

pub returns-then-bytes-lt3 : goal.returns-then-bytes-lt3
returns-then-bytes-lt3 c = λ e. omega (arith, header_fits _ (accepted_parts _ e).header)

pub returns-then-not-is_sound_header : goal.returns-then-not-is_sound_header
returns-then-not-is_sound_header c =
    λ e. false_not (sym c.if-not-is_sound_header.true ∙ c.is_sound_header.ensures.1 (header_exact _ _ c.read_bits-head.ensures (accepted_parts _ e).header))

pub load_variables-requires : goal.load_variables-requires
load_variables-requires c =
    let f = split_22 _ _ c.read_bits-head.ensures in
    let S = c.is_sound_header.ensures.0 c.if-not-is_sound_header.false in
    record { n_value = (f.1, S.variables_max, f.2, S.actions_max, c.requires.head); counts_len = (refl, no_counts_lem _ 64) }

pub returns-in_err-load_variables : goal.returns-in_err-load_variables
returns-in_err-load_variables c = rw c.from_residual.ensures (λ e. c.in_err-load_variables.ensures (accepted_parts _ e).variables)

pub load_actions-requires : goal.load_actions-requires
load_actions-requires c =
    let P = c.requires in
    let b = c.read_bits-head.ensures in
    let f = split_22 _ _ b in
    let v = c.in_ok-load_variables.ensures in
    record {
      room = record { head = omega (arith, P.head, v.long); enough = λ e. omega (arith, P.enough e, v.long) };
      variables_is = f.1;
      count_is = f.2;
      header = header_sound _ _ b (omega arith) (c.is_sound_header.ensures.0 c.if-not-is_sound_header.false);
      passed = v.passed;
      loaded = v.loaded;
      values = v.values;
    }
