-- Worked examples: what asking for a text answers, and which part is handed out. They hold by computation.
use Rattle.std.specs.Prelude.{◌≡◌, refl, [], ◌∷◌, Some, None}
use Prim.Native.Char.{code}
use Rattle.std.proofs.Common.{arith}
use Rattle.grammar.specs.Bytes.{text, within}
use Rattle.grammar.specs.Character.{is_char, utf8}
use Rattle.grammar.specs.Reference.{amp, named, good_named}
use Rattle.grammar.specs.Value.{raw, ref, is_quote, banned, good_raw, good_ref, good_last, good_item, read_item, read_value}
use Rattle.number.specs.Bytes.{digit, hex}
use Rattle.number.specs.Guid.{may, filled, guid_of}
use Rattle.number.specs.Examples.{bytes_of}
use Rattle.value.specs.Text.{Text, altered}
use Rattle.value.specs.Asking.{in_message, in_scratch, handed, refused, paper, stands, no_room_case, decoded, TextSays, absent, outside, there}
use Rattle.value.specs.Parts.{part_or, part_at}
use Rattle.value.specs.Ids.{id_read}
use Rattle.value.specs.declared.text.TextAt.TheVariants.{InMessage, InScratch, No}

-- the bytes that do not read as they stand: `&` begins a reference, tab, LF and CR read as a space
pub altered_bytes : bytes_of altered ≡ 9 ∷ 10 ∷ 13 ∷ text "&"
unfolding altered
altered_bytes = refl

-- `a` stands as it reads, `&amp;` reads as `&`
plain : Text (text "a") (text "a")
unfolding is_quote is_char within banned utf8 read_item read_value
plain = record { quote = code "'"; quoted = refl; items = raw (code "a") ∷ []; good = good_item (good_raw refl refl) good_last; spelt = refl; reads = refl }

coded : Text (text "&amp;") (text "&")
unfolding is_quote utf8 read_item read_value
coded = record { quote = code "\""; quoted = refl; items = ref (named amp) ∷ []; good = good_item (good_ref good_named) good_last; spelt = refl; reads = refl }

-- "4 if absent, 6 if its place runs outside the message bytes", by one byte
pub says_four : TextSays (text "a") None (text "zz") (text "zz") (refused 4)
says_four = absent refl refl refl

pub says_six : TextSays (text "a") (Some (record { start = 1; len = 1 })) (text "zz") (text "zz") (refused 6)
says_six = outside (record { start = 1; len = 1 }) refl (omega arith) refl refl

-- "as a part of the message bytes where it stands there exactly as read", with no scratch at all
pub says_message : TextSays (text "xa") (Some (record { start = 1; len = 1 })) [] [] (handed (in_message 1 1))
unfolding altered
says_message = there (record { start = 1; len = 1 }) refl (omega arith) (stands (text "a") plain refl refl refl)

-- "7 exactly if it must be decoded and the scratch is shorter"
pub says_seven : TextSays (text "&amp;") (Some (record { start = 0; len = 5 })) [] [] (refused 7)
unfolding altered
says_seven = there (record { start = 0; len = 5 }) refl (omega arith) (no_room_case (text "&") coded refl (omega arith) refl refl)

-- "Decoding starts at its first byte and changes only the bytes it needs."
pub says_scratch : TextSays (text "&amp;") (Some (record { start = 0; len = 5 })) (text "zz") (text "&z") (handed (in_scratch 1))
unfolding altered
says_scratch = there (record { start = 0; len = 5 }) refl (omega arith) (decoded (text "&") coded refl (omega arith) refl refl)

-- the number and the values of each case
pub cases :
    (paper (InMessage (record { start = 3; len = 5 })) ≡ record { number = 0; place = in_message 3 5 })
    × (paper (InScratch 5) ≡ record { number = 0; place = in_scratch 5 })
    × (paper (No 7) ≡ refused 7)
cases = (refl, refl, refl)

-- parts of a message at block 1, offset 10, and of a scratch at block 2, offset 20; up to the last byte, and one beyond it
pub parts :
    (part_at (1, 10) (text "abc") (2, 20) (text "xyz") (InMessage (record { start = 1; len = 2 })) ≡ record { block = 1; offset = 11; bytes = text "bc" })
    × (part_at (1, 10) (text "abc") (2, 20) (text "xyz") (InMessage (record { start = 1; len = 3 })) ≡ record { block = 1; offset = 10; bytes = [] })
    × (part_at (1, 10) (text "abc") (2, 20) (text "xyz") (InScratch 3) ≡ record { block = 2; offset = 20; bytes = text "xyz" })
    × (part_at (1, 10) (text "abc") (2, 20) (text "xyz") (InScratch 4) ≡ record { block = 1; offset = 10; bytes = [] })
    × (part_at (1, 10) (text "abc") (2, 20) (text "xyz") (No 6) ≡ record { block = 1; offset = 10; bytes = [] })
unfolding part_at part_or
parts = (refl, refl, refl, refl, refl)

-- an id is handed out as it reads
pub ids :
    (id_read (text "01234567-89ab-cdef-0123-456789abcdef") ≡ Some (text "01234567-89ab-cdef-0123-456789abcdef"))
    × (id_read (text "01234567-89ab-cdef-0123-456789abcdeF") ≡ None)
unfolding id_read guid_of filled may hex digit
ids = (refl, refl)
