-- The invariant: no row so far is refused, so what is left rules as all rows do.
use mathlib.Core.Path.{refl, sym, ap, ◌∙◌}
use Prim.Native.Nat.{ℕ}
use Rattle.std.specs.Prelude.{None, Some}
use Rattle.refusals.specs.Numbers.{told}
use Rattle.reads.proofs.TableLaws.{only_features}
use Rattle.decides.proofs.DecideLaws.{is_refused_lem, rule_starts, rule_goes_on, rule_found, rule_ends}
use Rattle.decides.proofs.rule.Goals as goal

pub loop-i-init : goal.loop-i-init
loop-i-init c = rule_starts _ _ _ _ c.args.sort.features c.rows_of-rows.result.now

pub returns-in-Err : goal.returns-in-Err
returns-in-Err c =
    rule_found _ _ _ _ _ c.rows_of-rows.result.now _ c.loop-i.invariant c.loop-i-test.true c.try_row-tried.ensures c.args.sort c.rows_of-rows.ensures.all (only_features c.args.sort c.rows_of-rows.ensures)
    (λ z. is_refused_lem c.in-Err.refusal (sym (ap told c.in-Err.is) ∙ z))
    c.value_of-value.ensures
    (ap (λ (n : ℕ). Some (record { refusal = n; row = c.loop-i.i; value = c.value_of-value.result })) (c.number.ensures ∙ sym (ap told c.in-Err.is)))

pub loop-i-preserved : goal.loop-i-preserved
loop-i-preserved c = rule_goes_on _ _ _ _ _ c.rows_of-rows.result.now _ c.loop-i.invariant c.loop-i-test.true c.try_row-tried.ensures (ap told c.in_default.is)

pub returns : goal.returns
returns c = rule_ends _ _ _ _ _ c.rows_of-rows.result.now {r = None} c.args.sort c.rows_of-rows.ensures.all (only_features c.args.sort c.rows_of-rows.ensures) c.loop-i.invariant c.loop-i-test.false refl
