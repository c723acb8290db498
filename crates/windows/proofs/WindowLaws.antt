-- Bytes moved to the front of a buffer, and read behind those that are kept.
use Rattle.std.proofs.Common.{◌≡◌, ℕ, zero, suc, ◌+◌, ◌-◌, ◌<◌, ◌≤◌, Bool, true, false, ◌||◌, eqb, ◌⊎◌, [], ◌∷◌, ◌++◌, length, get_or, take, drop, set, sym, refl, ap, ◌∙◌, subst, inl, inr, append-nil, arith, length-drop, length-set, length-take-le, get_or-drop, drop-cons, take-suc, take-take, drop-drop, take-suc-set, drop-set-lt, take-add, eq-eqb, ne_eqb}
use lib.Seq.{drop-nil}
use Prim.Native.Char.{code}
use Rattle.grammar.specs.Bytes.{Bytes}
use Rattle.grammar.specs.Limits.{MESSAGE}
use Rattle.exact.specs.Chain.{clash}
use Rattle.windows.specs.Held.{has_end, Filled, Held, bytes_of, ToppedUp}
use Rattle.windows.specs.declared.window.Window.{Window}
use Rattle.windows.specs.declared.window.Got.{Got}

-- i of n bytes are moved
pub record Moved (old : Bytes) (from n : ℕ) (b : Bytes) (i : ℕ) : Type 0 where
  pub long : length b ≡ length old
  pub upto : i ≤ n
  pub inside : from + n ≤ length old
  pub front : take i b ≡ take i (drop from old)
  pub behind : drop i b ≡ drop i old

pub move_start : (old : Bytes) (from n : ℕ) → from + n ≤ length old → Moved old from n old 0
move_start old from n h = record { long = refl; upto = omega arith; inside = h; front = refl; behind = refl }

pub move_one : {old b : Bytes} {from n i : ℕ} → Moved old from n b i → i < n → Moved old from n (set b i (get_or b (from + i) 0)) (i + 1)
move_one {old} {b} {from} {n} {i} m h = let e : suc i ≡ i + 1 = omega arith in subst (λ (k : ℕ). Moved old from n (set b i a) k) e (record { long = length-set b i a ∙ m.long; upto = omega arith; inside = m.inside; front = front; behind = behind })
  where
    a : ℕ
    a = get_or b (from + i) 0

    same_byte : get_or b (from + i) 0 ≡ get_or (drop from old) i 0
    same_byte =
        ap (λ (k : ℕ). get_or b k 0) (omega arith) ∙ sym (get_or-drop i b from 0) ∙ ap (λ (y : Bytes). get_or y from 0) m.behind ∙ get_or-drop i old from 0
        ∙ ap (λ (k : ℕ). get_or old k 0) (omega arith) ∙ sym (get_or-drop from old i 0)

    front : take (suc i) (set b i a) ≡ take (suc i) (drop from old)
    front =
        take-suc-set b i a (omega (arith, m.long, m.inside)) ∙ ap (λ (y : Bytes). y ++ (a ∷ [])) m.front ∙ ap (λ (k : ℕ). take i (drop from old) ++ (k ∷ [])) same_byte
        ∙ sym (take-suc (drop from old) i 0 (omega (arith, m.inside, length-drop from old)))

    behind : drop (suc i) (set b i a) ≡ drop (suc i) old
    behind =
        let e : get_or b i 0 ∷ drop (suc i) b ≡ get_or old i 0 ∷ drop (suc i) old = sym (drop-cons b i 0 (omega (arith, m.long, m.inside))) ∙ m.behind ∙ drop-cons old i 0 (omega (arith, m.inside)) in
        let f : drop (suc i) b ≡ drop (suc i) old = cc in
        drop-set-lt (suc i) b i a (omega arith) ∙ f

pub moved_all : {old b : Bytes} {from n i : ℕ} → Moved old from n b i → n ≤ i → take n b ≡ take n (drop from old)
moved_all {old} {b} {from} {n} {i} m h =
    let e : i ≡ n = omega (arith, m.upto) in
    ap (λ (k : ℕ). take k b) (sym e) ∙ m.front ∙ ap (λ (k : ℕ). take k (drop from old)) e

-- a shorter front is kept too
pub take_less : (n k : ℕ) (x y : Bytes) → n ≤ k → take k x ≡ take k y → take n x ≡ take n y
take_less n k x y h e = sym (take-take n k x h) ∙ ap (take n) e ∙ take-take n k y h

-- bytes of a part of a buffer, and of that and what is behind it
part_long : (from next : ℕ) (b : Bytes) → from ≤ next → next ≤ length b → length (take (next - from) (drop from b)) ≡ next - from
part_long from next b h k = length-take-le (next - from) (drop from b) (omega (arith, length-drop from b))

part_joined : (from len next : ℕ) (b : Bytes) → from ≤ len → len ≤ next → take (next - from) (drop from b) ≡ take (len - from) (drop from b) ++ take (next - len) (drop len b)
part_joined from len next b h k =
    let n : next - from ≡ (len - from) + (next - len) = omega arith in
    let m : from + (len - from) ≡ len = omega arith in
    ap (λ (j : ℕ). take j (drop from b)) n ∙ take-add (len - from) (next - len) (drop from b)
    ∙ ap (λ (y : Bytes). take (len - from) (drop from b) ++ take (next - len) y) (drop-drop (len - from) from b ∙ ap (λ (j : ℕ). drop j b) m)

-- `>` found among the last bytes is among all that came
has_behind : (x y : Bytes) → has_end y ≡ true → has_end (x ++ y) ≡ true
has_behind [] y h = h
has_behind (b ∷ x) y h = go (eqb b (code ">")) (has_behind x y h)
  where
    go : (z : Bool) → has_end (x ++ y) ≡ true → z || has_end (x ++ y) ≡ true
    go true e = refl
    go false e = e

-- the search for `>`: what is left has one if all have
pub end_here : (s : Bytes) (i : ℕ) → i < length s → get_or s i 0 ≡ code ">" → has_end s ≡ has_end (drop i s) → true ≡ has_end s
end_here s i h e q = sym (q ∙ ap has_end (drop-cons s i 0 h) ∙ ap (λ (z : Bool). z || has_end (drop (suc i) s)) (eq-eqb (get_or s i 0) (code ">") e))

pub end_later : (s : Bytes) (i : ℕ) → i < length s → (get_or s i 0 ≡ code ">" → ⊥) → has_end s ≡ has_end (drop i s) → has_end s ≡ has_end (drop (i + 1) s)
end_later s i h e q =
    let n : suc i ≡ i + 1 = omega arith in
    q ∙ ap has_end (drop-cons s i 0 h) ∙ ap (λ (z : Bool). z || has_end (drop (suc i) s)) (ne_eqb (get_or s i 0) (code ">") e) ∙ ap (λ (k : ℕ). has_end (drop k s)) n

pub no_end : (s : Bytes) (i : ℕ) → length s ≤ i → has_end s ≡ has_end (drop i s) → false ≡ has_end s
no_end s i h q = sym (q ∙ ap has_end (drop_none i s h))
  where
    drop_none : (i : ℕ) (s : Bytes) → length s ≤ i → drop i s ≡ []
    drop_none i [] h = drop-nil i
    drop_none zero (b ∷ s) h = absurd (omega arith)
    drop_none (suc i) (b ∷ s) h = drop_none i s (omega arith)

-- what reads bring, one behind the other
pub record Reading (from : ℕ) (old b : Bytes) (len : ℕ) : Type 0 where
  pub long : length b ≡ length old
  pub upto : len ≤ length b
  pub from_on : from ≤ len
  pub kept : take from b ≡ take from old

pub reading_on : {from : ℕ} {old b c : Bytes} {len : ℕ} (count : ℕ) → Reading from old b len → length c ≡ length old → len + count ≤ length c → take len c ≡ take len b → Reading from old c (len + count)
reading_on {from} {old} {b} {c} {len} count r l h e = record { long = l; upto = h; from_on = omega (arith, r.from_on); kept = take_less from len c b r.from_on e ∙ r.kept }

-- the ways out of reading: the input ends; a `>` came; the size of a message is held
pub filled_last : {from : ℕ} {old b c : Bytes} {len : ℕ} (count : ℕ) (failed : Bool) → Reading from old b len → len + count ≤ length c → take len c ≡ take len b → Filled from old c (record { count = len; last = true; failed = failed })
filled_last {from} {old} {b} {c} {len} count failed r h e = record { kept = take_less from len c b r.from_on e ∙ r.kept; upto = omega arith; from_on = r.from_on; on = λ q. clash q; asks = λ q. clash q }

pub filled_end : {from : ℕ} {old c : Bytes} (len count : ℕ) → (count ≡ 0 → ⊥) → Reading from old c (len + count) → from ≤ len → true ≡ has_end (take (len + count - len) (drop len c)) → Filled from old c (record { count = len + count; last = false; failed = false })
filled_end {from} {old} {c} len count some r h e = record {
  kept = r.kept;
  upto = r.upto;
  from_on = r.from_on;
  on = λ _. omega (arith, some);
  asks = λ _. inl (ap has_end (part_joined from len (len + count) c h (omega arith)) ∙ has_behind (take (len - from) (drop from c)) (take (len + count - len) (drop len c)) (sym e));
}

pub filled_full : {from : ℕ} {old c : Bytes} {len : ℕ} → Reading from old c len → from < MESSAGE → MESSAGE ≤ len → Filled from old c (record { count = len; last = false; failed = false })
filled_full r h k = record { kept = r.kept; upto = r.upto; from_on = r.from_on; on = λ _. omega arith; asks = λ _. inr k }

-- the three ways out of topping up
pub topped_at_end : (w : Window) (b : Bytes) → Held w (length b) → w.last ≡ true → ToppedUp w b w b
topped_at_end w b h e = record { held = h; more = []; bytes = sym (append-nil (bytes_of w b)); base = refl; on = λ _ f. clash (sym e ∙ f); asks = λ _ f. clash (sym e ∙ f); waits = λ _. refl; ended = λ _. (e, refl) }

pub topped_already : (w : Window) (b : Bytes) → Held w (length b) → w.last ≡ false → w.dry ≡ false → ToppedUp w b w b
topped_already w b h e d = record { held = h; more = []; bytes = sym (append-nil (bytes_of w b)); base = refl; on = λ f _. clash (sym f ∙ d); asks = λ f _. clash (sym f ∙ d); waits = λ _. refl; ended = λ f. clash (sym f ∙ e) }

pub topped_read : (w : Window) (old moved new : Bytes) (g : Got) → w.last ≡ false → w.dry ≡ true → take (w.len - w.at) moved ≡ bytes_of w old → Filled (w.len - w.at) moved new g
    → ToppedUp w old (record { base = w.base; at = 0; len = g.count; last = g.last; failed = g.failed; dry = false }) new
topped_read w old moved new g e d m f =
    let z : g.count - 0 ≡ g.count = omega arith in
    let y : g.count ≡ (w.len - w.at) + (g.count - (w.len - w.at)) = omega (arith, f.from_on) in
    let long = part_long (w.len - w.at) g.count new f.from_on f.upto in record {
      held = record { front = omega arith; back = f.upto; room = λ q. clash (sym q) };
      more = take (g.count - (w.len - w.at)) (drop (w.len - w.at) new);
      bytes = ap (λ (k : ℕ). take k new) (z ∙ y) ∙ take-add (w.len - w.at) (g.count - (w.len - w.at)) new ∙ ap (λ (x : Bytes). x ++ take (g.count - (w.len - w.at)) (drop (w.len - w.at) new)) (f.kept ∙ m);
      base = refl;
      on = λ _ q. omega (arith, f.on q);
      asks = λ _ q. subst (λ (k : ℕ). (has_end (take (g.count - (w.len - w.at)) (drop (w.len - w.at) new)) ≡ true) ⊎ (MESSAGE ≤ k)) (sym z) (f.asks q);
      waits = λ q. clash (sym d ∙ q);
      ended = λ q. clash (sym q ∙ e);
    }

-- each read leaves less room
pub reading_less : {from : ℕ} {old b : Bytes} {len : ℕ} (c : Bytes) (count : ℕ) → Reading from old b len → length c ≡ length old → len + count ≤ length c → (count ≡ 0 → ⊥) → length c - (len + count) < length b - len
reading_less c count r l h some = omega (arith, r.long)
