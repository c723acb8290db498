-- What is written back: no second answer, what a reply reads as, and how long it is.
use Rattle.std.specs.Prelude.{Option, Some, None}
use mathlib.Core.Path.{◌≡◌, refl, sym, ap, subst, ◌∙◌}
use mathlib.Core.List.{List, [], ◌∷◌}
use mathlib.Core.Bool.{true}
use Prim.Native.Nat.{ℕ, ◌+◌, ◌≤◌, ◌<◌}
use native.Mathlib.Omega.{arith}
use lib.ListN.{length, take, drop}
use lib.Seq.{take_all}
use borrow.Author.Tests.{le-leb}
use Rattle.grammar.specs.Bytes.{Bytes, within}
use Rattle.grammar.specs.Tree.{Tree}
use Rattle.grammar.specs.Message.{Message as IsMessage}
use Rattle.value.specs.Text.{Text}
use Rattle.value.proofs.Quotes.{text_one}
use Rattle.value.specs.declared.text.Span.{Span}
use Rattle.spelling.specs.Decided.{is_text}
use Rattle.table.specs.Table.{table, rows_of}
use Rattle.table.specs.Says.{Result, absent, present, a_text, an_int, said_of}
use Rattle.meant.specs.Meant.{meant_by, meant_of, refusal_of}
use Rattle.meant.specs.Written.{written_of}
use Rattle.meant.specs.Notices.{notice}
use Rattle.meant.proofs.Theorems.{reads_back, written_most, most_each}
use Rattle.meant.specs.declared.Written.{Written}
use Rattle.meant.specs.First.{First}
use Rattle.meant.specs.Replies.{same_of, bare_of, Reply, same_id_case, no_id_case, Replies, replied, too_long, outside, no_text, SameId}
use Rattle.meant.proofs.ReadLaws.{read_is_text}
use Rattle.message.specs.Cells.{cells_of, fields_from, field_by, words_by, whole_by, measure_by, guid_by, features_by}
use Rattle.message.specs.Messages.{message_from, fields_of, with_zeros}

-- bytes written first are written in one way
pub first_only : {b old new new' : Bytes} {r r' : Written} → First b old new r → First b old new' r' → (r ≡ r') × (new ≡ new')
first_only p q = (p.answer ∙ sym q.answer, p.buffer ∙ sym q.buffer)

-- no second result, and no other buffer, satisfies the promise of `notify`
pub notify_only : (n : ℕ) {old new new' : Bytes} {r r' : Written} → First (notice n) old new r → First (notice n) old new' r' → (r ≡ r') × (new ≡ new')
notify_only n p q = first_only p q

one_span : {w : Option Span} {p p' : Span} → w ≡ Some p → w ≡ Some p' → p ≡ p'
one_span a b = cc

not_both : {X : Type 0} {w : Option Span} {p : Span} → w ≡ None → w ≡ Some p → X
not_both a b = absurd (let z : ◌≡◌ {A = ℕ} 0 1 = cc in omega arith)

-- the text at one place is one
same_text : (s : Bytes) {w : Option Span} {p p' : Span} {v v' : Bytes} → w ≡ Some p → w ≡ Some p' → Text (take p.len (drop p.start s)) v → Text (take p'.len (drop p'.start s)) v' → v ≡ v'
same_text s {v' = v'} a b x y = text_one x (subst (λ (p : Span). Text (take p.len (drop p.start s)) v') (one_span b a) y)

-- a reply is one
pub reply_one : {s b b' : Bytes} {w : Option Span} → Reply s w b → Reply s w b' → b ≡ b'
reply_one {s} (same_id_case p e l v t h f) (same_id_case p' e' l' v' t' h' f') = f ∙ ap (λ (v : Bytes). written_of (same_of (length v)) v) (same_text s e e' t t') ∙ sym f'
reply_one (same_id_case p e l v t h f) (no_id_case e' f') = not_both e' e
reply_one (no_id_case e f) (same_id_case p' e' l' v' t' h' f') = not_both e e'
reply_one (no_id_case e f) (no_id_case e' f') = f ∙ sym f'

no_reply : {X : Type 0} (s : Bytes) {w : Option Span} {b : Bytes} {p : Span} → Reply s w b → w ≡ Some p → ((v : Bytes) → Text (take p.len (drop p.start s)) v → p.start + p.len ≤ length s → length v ≤ 80 → ⊥) → X
no_reply s (same_id_case p e l v t h f) g n = absurd (subst (λ (p : Span). ((v : Bytes) → Text (take p.len (drop p.start s)) v → p.start + p.len ≤ length s → length v ≤ 80 → ⊥)) (one_span g e) n v t l h)
no_reply s (no_id_case e f) g n = not_both e g

far_out : (s : Bytes) {w : Option Span} (p p' : Span) → w ≡ Some p → w ≡ Some p' → length s < p.start + p.len → p'.start + p'.len ≤ length s → ⊥
far_out s p p' e f h k = let a = ap (λ (p : Span). p.start + p.len) (one_span e f) in omega arith

refused_alike : {old new new' : Bytes} {q r r' : Written} → r ≡ q → new ≡ old → r' ≡ q → new' ≡ old → (r ≡ r') × (new ≡ new')
refused_alike a b c d = (a ∙ sym c, b ∙ sym d)

module _ {s : Bytes} {w : Option Span} {old new new' : Bytes} {r r' : Written} where
  -- no second result, and no other buffer, satisfies the promise of `reply`
  pub replies_only : Replies s w old new r → Replies s w old new' r' → (r ≡ r') × (new ≡ new')
  replies_only (replied b x f) (replied b' y g) = first_only f (subst (λ (b : Bytes). First b old new' r') (reply_one y x) g)
  replies_only (replied b x f) (too_long p e l v t h i j) = no_reply s x e (λ v' t' l' h'. let z = ap length (text_one t t') in omega arith)
  replies_only (replied b x f) (outside p e h i j) = no_reply s x e (λ v t l k. omega arith)
  replies_only (replied b x f) (no_text p e l n i j) = no_reply s x e (λ v t l' k. n v t)
  replies_only (too_long p e l v t h i j) (replied b x f) = no_reply s x e (λ v' t' l' h'. let z = ap length (text_one t t') in omega arith)
  replies_only (too_long p e l v t h i j) (too_long p' e' l' v' t' h' i' j') = refused_alike i j i' j'
  replies_only (too_long p e l v t h i j) (outside p' e' h' i' j') = absurd (far_out s p' p e' e h' l)
  replies_only (too_long p e l v t h i j) (no_text p' e' l' n i' j') = absurd (n v (subst (λ (p : Span). Text (take p.len (drop p.start s)) v) (one_span e e') t))
  replies_only (outside p e h i j) (replied b x f) = no_reply s x e (λ v t l k. omega arith)
  replies_only (outside p e h i j) (too_long p' e' l' v' t' h' i' j') = absurd (far_out s p p' e e' h l')
  replies_only (outside p e h i j) (outside p' e' h' i' j') = refused_alike i j i' j'
  replies_only (outside p e h i j) (no_text p' e' l' n i' j') = refused_alike i j i' j'
  replies_only (no_text p e l n i j) (replied b x f) = no_reply s x e (λ v t l' k. n v t)
  replies_only (no_text p e l n i j) (too_long p' e' l' v t h' i' j') = absurd (n v (subst (λ (p : Span). Text (take p.len (drop p.start s)) v) (one_span e' e) t))
  replies_only (no_text p e l n i j) (outside p' e' h' i' j') = refused_alike i j i' j'
  replies_only (no_text p e l n i j) (no_text p' e' l' n' i' j') = refused_alike i j i' j'

-- an Id that is a text of at most 80 bytes, or none, is replied to: only room can lack
pub reply_written : {s old new : Bytes} {w : Option Span} {r : Written} → ((p : Span) → w ≡ Some p → (v : Bytes) × Text (take p.len (drop p.start s)) v × (p.start + p.len ≤ length s) × (length v ≤ 80)) → Replies s w old new r
    → (b : Bytes) × Reply s w b × First b old new r
reply_written h (replied b x f) = (b, x, f)
reply_written h (too_long p e l v t k i j) = let (v', t', l', k') = h p e in absurd (let z = ap length (text_one t t') in omega arith)
reply_written h (outside p e k i j) = let (v', t', l', k') = h p e in absurd (omega arith)
reply_written h (no_text p e l n i j) = let (v', t', l', k') = h p e in absurd (n v' t')

-- what the two replies mean, and that sending does not refuse them
whole_text : (v : Bytes) → take (length v) (drop 0 v) ≡ v
whole_text v = take_all (length v) v (omega arith)

pub bare_sendable : refusal_of bare_of [] ≡ 0
unfolding bare_of message_from fields_of table meant_of meant_by within with_zeros cells_of fields_from field_by words_by whole_by measure_by guid_by features_by
bare_sendable = refl

pub same_sendable : (v : Bytes) → is_text v ≡ true → length v ≤ 80 → refusal_of (same_of (length v)) v ≡ 0
unfolding same_of message_from fields_of table meant_of meant_by within with_zeros cells_of fields_from field_by words_by whole_by measure_by guid_by features_by
same_sendable v t h = rw (whole_text v, le-leb (length v) 80 h, t, le-leb (0 + length v) (length v) (omega arith)) refl

same_meant : (v : Bytes) → is_text v ≡ true → length v ≤ 80 → meant_of (rows_of 10) (fields_of (same_of (length v))) v ≡ present (an_int 2) ∷ present (a_text v) ∷ []
unfolding same_of message_from fields_of table meant_of meant_by within with_zeros cells_of fields_from field_by words_by whole_by measure_by guid_by features_by
same_meant v t h = rw (whole_text v, le-leb (length v) 80 h, t, le-leb (0 + length v) (length v) (omega arith)) refl

bare_meant : meant_of (rows_of 10) (fields_of bare_of) [] ≡ present (an_int 2) ∷ absent ∷ []
unfolding bare_of message_from fields_of table meant_of meant_by within with_zeros cells_of fields_from field_by words_by whole_by measure_by guid_by features_by
bare_meant = refl

Back : Bytes → List Result → Type 0
Back b l = (t : Tree) × IsMessage b t × ((said_of t).kind ≡ 10) × ((said_of t).refusal ≡ 0) × ((said_of t).values ≡ l)

same_back : (v : Bytes) → is_text v ≡ true → length v ≤ 80 → Back (written_of (same_of (length v)) v) (present (an_int 2) ∷ present (a_text v) ∷ [])
unfolding Back same_of message_from table
same_back v t h =
    let (x, m, k, z, l) = reads_back (same_of (length v)) v refl (same_sendable v t h) in
    (x, m, k, z, l ∙ same_meant v t h)

bare_back : Back (written_of bare_of []) (present (an_int 2) ∷ absent ∷ [])
unfolding Back bare_of message_from table
bare_back =
    let (x, m, k, z, l) = reads_back bare_of [] refl bare_sendable in
    (x, m, k, z, l ∙ bare_meant)

-- T2.L10: a reply reads as a CheckAlive, "Type 2 and the same Id, or no Id"
pub reply_reads_back : {s b : Bytes} {w : Option Span} → Reply s w b
    → (t : Tree) × IsMessage b t × ((said_of t).kind ≡ 10) × ((said_of t).refusal ≡ 0) × SameId s w (said_of t).values
unfolding Back
reply_reads_back {s} {b} {w} (same_id_case p e l v t h f) =
    let (x, m, k, z, y) = same_back v (read_is_text t) h in
    (x, subst (λ (b : Bytes). IsMessage b x) (sym f) m, k, z, record { id = present (a_text v); values = y; none = λ n. not_both n e; same = λ p' e' v' t'. ap (λ (v : Bytes). present (a_text v)) (same_text s e e' t t') })
reply_reads_back {s} {b} {w} (no_id_case e f) =
    let (x, m, k, z, y) = bare_back in
    (x, subst (λ (b : Bytes). IsMessage b x) (sym f) m, k, z, record { id = absent; values = y; none = λ n. refl; same = λ p' e' v' t'. not_both e e' })

-- and has at most 525 bytes
pub reply_long : {s b : Bytes} {w : Option Span} → Reply s w b → length b ≤ 525
unfolding same_of bare_of message_from
reply_long (same_id_case p e l v t h f) = let x = written_most (same_of (length v)) v (same_sendable v (read_is_text t) h) in let y = most_each.9 in let z = ap length f in omega arith
reply_long (no_id_case e f) = let x = written_most bare_of [] bare_sendable in let y = most_each.9 in let z = ap length f in omega arith
