-- The invariant: bytes behind the first ones, which are kept.
use Rattle.std.proofs.Common.{sym, refl, ◌∙◌, arith, rules}
use Rattle.windows.proofs.WindowLaws.{reading_on, reading_less, filled_last, filled_end, filled_full}
use Rattle.windows.proofs.window.fill.Goals as goal

pub loop-len-init : goal.loop-len-init
loop-len-init g c = record { long = refl; upto = omega arith; from_on = omega arith; kept = refl }

pub read_behind-got-requires : goal.read_behind-got-requires
read_behind-got-requires g c = c.loop-len.invariant.upto

pub returns-then-got-eq0 : goal.returns-then-got-eq0
returns-then-got-eq0 g c = filled_last c.read_behind-got.result.count c.read_behind-got.result.failed c.loop-len.invariant c.read_behind-got.ensures.count_in_bounds c.read_behind-got.ensures.buf_unchanged

pub overflow_add-next : goal.overflow_add-next
overflow_add-next g c = omega (arith, c.read_behind-got.ensures.count_in_bounds)

pub slice_bounds-has_end-start : goal.slice_bounds-has_end-start
slice_bounds-has_end-start g c = omega (arith, c.read_behind-got.ensures.count_in_bounds)

pub slice_bounds-has_end-end : goal.slice_bounds-has_end-end
slice_bounds-has_end-end g c = omega (arith, c.read_behind-got.ensures.count_in_bounds)

pub returns-then-has_end : goal.returns-then-has_end
returns-then-has_end g c = filled_end c.loop-len.len c.read_behind-got.result.count c.if-got-eq0.false (reading_on c.read_behind-got.result.count c.loop-len.invariant (search rules) c.read_behind-got.ensures.count_in_bounds c.read_behind-got.ensures.buf_unchanged) c.loop-len.invariant.from_on (sym c.if-has_end.true ∙ c.has_end.ensures)

pub loop-len-smaller : goal.loop-len-smaller
loop-len-smaller g c = reading_less c.read_behind-got.new.buf c.read_behind-got.result.count c.loop-len.invariant (search rules) c.read_behind-got.ensures.count_in_bounds c.if-got-eq0.false

pub loop-len-preserved : goal.loop-len-preserved
loop-len-preserved g c = reading_on c.read_behind-got.result.count c.loop-len.invariant (search rules) c.read_behind-got.ensures.count_in_bounds c.read_behind-got.ensures.buf_unchanged

pub shape_of-buf : goal.shape_of-buf
shape_of-buf g c = c.loop-len.invariant.long

pub returns : goal.returns
returns g c = filled_full c.loop-len.invariant c.requires.from_bound c.loop-len-test.false
