-- Worked examples, at the ends of each range and just beyond. They hold by computation.
use Rattle.std.specs.Prelude.{◌≡◌, refl, List, [], ◌∷◌, Bool, true, false, ◌&&◌, ◌||◌, not}
use Rattle.grammar.specs.Bytes.{Bytes, text, within, same}
use Rattle.grammar.specs.Character.{is_char, utf8}
use Rattle.model.specs.Characters.{second3, third3, second4, plain_byte, char_p}
use Rattle.number.specs.Bytes.{drop_back, keep_before}
use Rattle.number.specs.Examples.{bytes_of}
use Rattle.number.specs.Digits.{digits_of, print_int, places}
use Rattle.spelling.specs.Written.{escape_byte, escape, behind_point, print_decimal}
use Rattle.spelling.specs.Characters.{spell}
use Rattle.spelling.specs.Decided.{text_from, is_text}

-- "Text characters `& < > "` .. and 9, 10, 13" are not written as they are, and every other byte is
pub replaced_bytes : bytes_of (λ b. not (same (escape_byte b) (b ∷ []))) ≡ 9 ∷ 10 ∷ 13 ∷ text "\"&<>"
unfolding escape_byte
replaced_bytes = refl

pub escapes : escape (text "a<b & \"c\">") ≡ text "a&lt;b &amp; &quot;c&quot;&gt;"
unfolding escape escape_byte
escapes = refl

pub line_ends : escape (9 ∷ 10 ∷ 13 ∷ text "'") ≡ text "&#9;&#10;&#13;'"
unfolding escape escape_byte
line_ends = refl

pub ints :
    (print_int 0 ≡ text "0")
    × (print_int 7 ≡ text "7")
    × (print_int 9 ≡ text "9")
    × (print_int 10 ≡ text "10")
    × (print_int 100 ≡ text "100")
    × (print_int 65535 ≡ text "65535")
unfolding print_int digits_of
ints = (refl, refl, refl, refl, refl, refl)

pub decimals :
    (print_decimal 160500000 0 ≡ text "160.5")
    × (print_decimal 1000000 0 ≡ text "1")
    × (print_decimal 10000000 0 ≡ text "10")
    × (print_decimal 999999 0 ≡ text "0.999999")
    × (print_decimal 500000 0 ≡ text "0.5")
    × (print_decimal 10 0 ≡ text "0.00001")
    × (print_decimal 1 0 ≡ text "0.000001")
    × (print_decimal 1000001 0 ≡ text "1.000001")
    × (print_decimal 160000000 2 ≡ text "160.00")
    × (print_decimal 160500000 1 ≡ text "160.5")
    × (print_decimal 160500000 3 ≡ text "160.500")
    × (print_decimal 1000000 6 ≡ text "1.000000")
    × (print_decimal 123456 2 ≡ text "0.123456")
unfolding print_decimal print_int digits_of places behind_point drop_back keep_before
decimals = (refl, refl, refl, refl, refl, refl, refl, refl, refl, refl, refl, refl, refl)

-- "UTF-8 of the XML 1.0 characters (9, 10, 13 and hex 20 to D7FF, E000 to FFFD, 10000 to 10FFFF)": the ends of each range
pub characters : spell (0x20 ∷ 0x7F ∷ 0x80 ∷ 0x7FF ∷ 0x800 ∷ 0xD7FF ∷ 0xE000 ∷ 0xFFFD ∷ 0x10000 ∷ 0x10FFFF ∷ [])
    ≡ 0x20 ∷ 0x7F ∷ 0xC2 ∷ 0x80 ∷ 0xDF ∷ 0xBF ∷ 0xE0 ∷ 0xA0 ∷ 0x80 ∷ 0xED ∷ 0x9F ∷ 0xBF ∷ 0xEE ∷ 0x80 ∷ 0x80 ∷ 0xEF ∷ 0xBF ∷ 0xBD ∷ 0xF0 ∷ 0x90 ∷ 0x80 ∷ 0x80 ∷ 0xF4 ∷ 0x8F ∷ 0xBF ∷ 0xBF ∷ []
unfolding utf8
characters = refl

-- every one of these is a text, and none is
abbrev every : List Bytes → Bool
every [] = true
every (v ∷ l) = is_text v && every l

abbrev any : List Bytes → Bool
any [] = false
any (v ∷ l) = is_text v || any l

abbrev texts : List Bytes
texts =
    []
    ∷ text "<&>\"'"
    ∷ (9 ∷ 10 ∷ 13 ∷ 32 ∷ 127 ∷ [])
    ∷ (0xC2 ∷ 0x80 ∷ 0xDF ∷ 0xBF ∷ [])
    ∷ (0xE0 ∷ 0xA0 ∷ 0x80 ∷ 0xED ∷ 0x9F ∷ 0xBF ∷ 0xEE ∷ 0x80 ∷ 0x80 ∷ 0xEF ∷ 0xBF ∷ 0xBD ∷ [])
    ∷ (0xF0 ∷ 0x90 ∷ 0x80 ∷ 0x80 ∷ 0xF4 ∷ 0x8F ∷ 0xBF ∷ 0xBF ∷ [])
    ∷ []

-- control bytes; a byte that begins nothing; too long a form; a surrogate; FFFE; beyond 10FFFF; a character cut short
abbrev no_texts : List Bytes
no_texts =
    (0 ∷ [])
    ∷ (8 ∷ [])
    ∷ (11 ∷ [])
    ∷ (12 ∷ [])
    ∷ (14 ∷ [])
    ∷ (31 ∷ [])
    ∷ (0x80 ∷ [])
    ∷ (0xC1 ∷ 0xBF ∷ [])
    ∷ (0xE0 ∷ 0x9F ∷ 0xBF ∷ [])
    ∷ (0xED ∷ 0xA0 ∷ 0x80 ∷ [])
    ∷ (0xEF ∷ 0xBF ∷ 0xBE ∷ [])
    ∷ (0xF0 ∷ 0x8F ∷ 0xBF ∷ 0xBF ∷ [])
    ∷ (0xF4 ∷ 0x90 ∷ 0x80 ∷ 0x80 ∷ [])
    ∷ (97 ∷ 0xE2 ∷ 0x82 ∷ [])
    ∷ []

pub texts_hold : (every texts ≡ true) × (any no_texts ≡ false)
unfolding is_text text_from char_p second3 third3 second4 plain_byte is_char within
texts_hold = (refl, refl)
