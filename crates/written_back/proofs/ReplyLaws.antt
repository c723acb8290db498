-- The bytes of an answer, and that they are first in the buffer.
use mathlib.Core.Path.{◌≡◌, refl, sym, ap, subst, ◌∙◌}
use mathlib.Core.List.{[], ◌∷◌, ◌++◌, append-nil}
use Prim.Native.Nat.{ℕ, ◌+◌, ◌-◌, ◌≤◌, ◌<◌}
use native.Mathlib.Omega.{arith}
use native.Mathlib.Nat.{zero-add}
use lib.ListN.{length, take, drop, length-append, length-take}
use lib.Seq.{take_all}
use borrow.Author.Tests.{ne_eqb, le-leb, lt-leb}
use Rattle.grammar.specs.Bytes.{Bytes, text}
use Rattle.printing.specs.Put.{Wrote}
use Rattle.printing.specs.Writes.{put_starts}
use Rattle.number.specs.Digits.{print_int, digits_of}
use Rattle.printing.proofs.PieceLaws.{Made}
use Rattle.spelling.specs.Written.{escape_byte, escape}
use Rattle.spelling.proofs.EscapeLaws.{Unnamed, escape_long}
use Rattle.table.specs.Table.{table}
use Rattle.message.specs.Cells.{words_by, whole_by, field_by, fields_from, cells_of, measure_by, guid_by, features_by}
use Rattle.message.specs.Messages.{message_from, fields_of, with_zeros}
use Rattle.meant.specs.Written.{attribute_of, attributes_of, child_of, children_of, written_of}
use Rattle.meant.specs.Notices.{description, notice, notice_message}
use Rattle.meant.proofs.Theorems.{notice_written}
use Rattle.meant.specs.Writes.{refused_by}
use Rattle.meant.specs.declared.Written.{Written}
use Rattle.meant.specs.First.{First}
use Rattle.written_back.specs.Framed.{framed, bare_reply, same_reply, described, SameReply}
use Rattle.written_back.specs.Described.{notice_of}
use Rattle.meant.specs.Replies.{same_of, bare_of}

-- three pieces
pub framed_is : (f v b : Bytes) → Made (framed f v b) (f ∷ escape v ∷ b ∷ [])
framed_is f v b = record { is = ap (λ (y : Bytes). f ++ (escape v ++ y)) (sym (append-nil b)) }

-- no more than so many bytes
pub framed_small : (f v b : Bytes) → length f ≤ 80 → length v ≤ 80 → length b ≤ 80 → length (framed f v b) ≤ 640
framed_small f v b h k l = omega (arith, length-append f (escape v ++ b), length-append (escape v) b, escape_long v)

pub part_short : (a k : ℕ) (l : Bytes) → k ≤ 80 → length (take (a + k - a) l) ≤ 80
part_short a k l h = omega (arith, length-take (a + k - a) l)

-- bytes that fit, and bytes that do not
pub first_fits : {b old new : Bytes} {n : ℕ} → Wrote old 0 b new n → length b ≤ length old → First b old new (record { refusal = 0; count = n })
first_fits {b} {old} {new} {n} w h =
    let e : n ≡ length b = w.next ∙ zero-add (length b) in
    record { answer = rw (le-leb (length b) (length old) h, e) refl; buffer = rw (le-leb (length b) (length old) h) (w.bytes ∙ put_starts old b h) }

pub first_full : (b old : Bytes) → length old < length b → First b old old (refused_by 7)
first_full b old h = record { answer = rw (lt-leb (length b) (length old) h) refl; buffer = rw (lt-leb (length b) (length old) h) refl }

-- the whole of the texts
whole_text : (v : Bytes) → take (length v) (drop 0 v) ≡ v
whole_text v = take_all (length v) v (omega arith)

-- what stands behind a text
ends : (v : Bytes) → v ++ text "\"/></Hermes>" ≡ (((v ++ text "\"") ++ []) ++ text "/>") ++ text "</Hermes>"
ends [] = refl
ends (b ∷ v) = ap (λ (y : Bytes). b ∷ y) (ends v)

-- the answers are what is written for their messages
pub bare_bytes : bare_reply ≡ written_of bare_of []
unfolding bare_of message_from fields_of table attributes_of attribute_of children_of child_of print_int digits_of escape escape_byte with_zeros cells_of fields_from field_by words_by whole_by measure_by guid_by features_by
bare_bytes = refl

pub same_bytes : (v : Bytes) → same_reply v ≡ written_of (same_of (length v)) v
unfolding same_of message_from fields_of table attributes_of attribute_of children_of child_of print_int digits_of escape escape_byte with_zeros cells_of fields_from field_by words_by whole_by measure_by guid_by features_by
same_bytes v = rw (whole_text v) (ap (λ (y : Bytes). text "<Hermes><CheckAlive Type=\"2\" Id=\"" ++ y) (ends (escape v)))

notice_bytes : (d : Bytes) → described d ≡ written_of (notice_of (length d)) d
unfolding notice_of message_from fields_of table attributes_of attribute_of children_of child_of print_int digits_of escape escape_byte with_zeros cells_of fields_from field_by words_by whole_by measure_by guid_by features_by
notice_bytes d = rw (whole_text d) (ap (λ (y : Bytes). text "<Hermes><Notification NotificationCode=\"1\" Severity=\"1\" Description=\"" ++ y) (ends (escape d)))

pub notified : (n : ℕ) {d old new : Bytes} {r : Written} → description n ≡ d → First (described d) old new r → First (notice n) old new r
unfolding notice_message notice_of
notified n {d} {old} {new} {r} e w =
    subst (λ (b : Bytes). First b old new r) (sym (notice_written n ∙ sym (notice_bytes (description n)))) (subst (λ (d : Bytes). First (described d) old new r) (sym e) w)

-- the reply with an Id, which may be too long
pub same_short : {v old new : Bytes} {r : Written} → length v ≤ 80 → First (same_reply v) old new r → SameReply v old new r
same_short h f = record { short = λ k. f; long = λ k. absurd (omega arith) }

pub same_long : {v old : Bytes} → 80 < length v → SameReply v old old (refused_by 5)
same_long h = record { short = λ k. absurd (omega arith); long = λ k. (refl, refl) }

-- a number that has none
pub undescribed : (n : ℕ) → Unnamed (9 ∷ 6 ∷ 5 ∷ 4 ∷ 3 ∷ 2 ∷ []) n → description n ≡ []
unfolding description
undescribed n u =
    rw (ne_eqb n 2 u.0.0.0.0.0.1, ne_eqb n 3 u.0.0.0.0.1, ne_eqb n 4 u.0.0.0.1, ne_eqb n 5 u.0.0.1, ne_eqb n 6 u.0.1, ne_eqb n 9 u.1)
