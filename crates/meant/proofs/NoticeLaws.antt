-- The Notifications that are sent before a connection ends: what is written of them, and what it means.
use mathlib.Core.Path.{◌≡◌, refl, ap, ◌∙◌}
use mathlib.Core.List.{List, [], ◌∷◌, ◌++◌}
use mathlib.Core.Bool.{true}
use Prim.Native.Nat.{ℕ, ◌+◌}
use native.Mathlib.Omega.{arith}
use lib.Dec.{eqb, leb}
use lib.ListN.{length, take, drop}
use lib.Seq.{take_all}
use borrow.Author.Tests.{le-leb}
use Rattle.grammar.specs.Bytes.{Bytes, text, within, every}
use Rattle.grammar.specs.Character.{is_char, utf8}
use Rattle.number.proofs.Tests.{cases}
use Rattle.number.specs.Digits.{digits_of, print_int}
use Rattle.spelling.specs.Written.{escape_byte, escape}
use Rattle.spelling.specs.Characters.{spell}
use Rattle.spelling.specs.Decided.{is_text}
use Rattle.spelling.proofs.Theorems.{text_decided}
use Rattle.table.specs.Table.{table, rows_of}
use Rattle.table.specs.Says.{Result, present, a_text, an_int}
use Rattle.meant.specs.Meant.{meant_by, meant_of, first_in, refusal_by}
use Rattle.meant.specs.Written.{attribute_of, attributes_of, child_of, children_of, written_of}
use Rattle.meant.specs.Notices.{description, notice, notice_message}
use Rattle.meant.proofs.MessageLaws.{Tells, refusal_table, message_back}
use Rattle.message.specs.Cells.{cells_of, fields_from, field_by, words_by, whole_by, measure_by, guid_by, features_by}
use Rattle.message.specs.Messages.{message_from, fields_of, with_zeros}

-- a text that is short and written as it is
record Described (d : Bytes) : Type 0 where
  short : leb (length d) 254 ≡ true
  is_text_holds : is_text d ≡ true
  same : escape d ≡ d

ascii : (d : Bytes) → leb (length d) 254 ≡ true → every is_char d ≡ true → d ≡ spell d → escape d ≡ d → Described d
ascii d s g k e = record { short = s; is_text_holds = (text_decided d).complete (record { chars = d; good = g; spelt = k }); same = e }

described : (n : ℕ) → Described (description n)
unfolding description escape escape_byte is_char utf8 within
described n =
    cases (eqb n 2) (λ h. rw h (ascii (text "malformed message") refl refl refl refl))
    (λ a. rw a (cases (eqb n 3) (λ h. rw h (ascii (text "message too long") refl refl refl refl))
    (λ b. rw b (cases (eqb n 4) (λ h. rw h (ascii (text "missing attribute") refl refl refl refl))
    (λ c. rw c (cases (eqb n 5) (λ h. rw h (ascii (text "text too long") refl refl refl refl))
    (λ d. rw d (cases (eqb n 6) (λ h. rw h (ascii (text "bad value") refl refl refl refl))
    (λ e. rw e (cases (eqb n 9) (λ h. rw h (ascii (text "invalid transition") refl refl refl refl))
    (λ f. rw f (ascii [] refl refl refl refl))))))))))))

-- the whole of the texts
whole_text : (d : Bytes) → take (length d) (drop 0 d) ≡ d
whole_text d = take_all (length d) d (omega arith)

-- what stands behind the text
ends : (d : Bytes) → d ++ text "\"/></Hermes>" ≡ (((d ++ text "\"") ++ []) ++ text "/>") ++ text "</Hermes>"
ends [] = refl
ends (b ∷ d) = ap (λ (y : Bytes). b ∷ y) (ends d)

pub notice_written : (n : ℕ) → notice n ≡ written_of (notice_message n) (description n)
unfolding notice notice_message message_from fields_of table attributes_of attribute_of children_of child_of print_int digits_of escape escape_byte with_zeros cells_of fields_from field_by words_by whole_by measure_by guid_by features_by
notice_written n = rw (whole_text (description n), (described n).same) (ap (λ (y : Bytes). text "<Hermes><Notification NotificationCode=\"1\" Severity=\"1\" Description=\"" ++ y) (ends (description n)))

-- what it means
abbrev pub notice_values : ℕ → List Result
notice_values n = present (an_int 1) ∷ present (an_int 1) ∷ present (a_text (description n)) ∷ []

notice_meant : (n : ℕ) → meant_of (rows_of 2) (fields_of (notice_message n)) (description n) ≡ notice_values n
unfolding notice_message message_from fields_of table meant_of meant_by within with_zeros cells_of fields_from field_by words_by whole_by measure_by guid_by features_by
notice_meant n =
    let d = description n in
    let g = described n in
    let i = le-leb (0 + length d) (length d) (omega arith) in
    rw (whole_text d, g.short, g.is_text_holds, i)

pub notice_sendable : (n : ℕ) → refusal_by 2 (fields_of (notice_message n)) (description n) ≡ 0
notice_sendable n = refusal_table 2 (fields_of (notice_message n)) (description n) ∙ ap first_in (notice_meant n)

pub notice_back : (n : ℕ) → Tells (notice n) 2 (notice_values n)
unfolding notice_message message_from table
notice_back n =
    let e = notice_meant n in
    let t : Tells (written_of (notice_message n) (description n)) 2 (meant_of (rows_of 2) (fields_of (notice_message n)) (description n)) = message_back 2 (fields_of (notice_message n)) (description n) refl (notice_sendable n) in
    rw (notice_written n, ← e) t
