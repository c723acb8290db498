-- The bytes that the writer puts down for a text and for a decimal. An Int is `print_int` of `number`.
use Rattle.std.specs.Prelude.{[], ◌∷◌, ◌++◌, cond, ℕ, ◌-◌, ◌/◌, ◌%◌, ◌^◌, min, eqb, length, replicate}
use Prim.Native.Char.{code}
use Rattle.grammar.specs.Bytes.{Bytes, text}
use Rattle.number.specs.Digits.{print_int, places}
use Rattle.number.specs.Bytes.{zero_digit, drop_back}
use Rattle.number.specs.Positive.{BEHIND}

-- "Text characters `& < > "` become `&amp; &lt; &gt; &quot;`, and 9, 10, 13 become `&#9; &#10; &#13;`."
unfoldable pub escape_byte : ℕ → Bytes
escape_byte b =
    cond (eqb (code "&") b) (text "&amp;")
    (cond (eqb (code "<") b) (text "&lt;")
    (cond (eqb (code ">") b) (text "&gt;")
    (cond (eqb (code "\"") b) (text "&quot;")
    (cond (eqb 9 b) (text "&#9;")
    (cond (eqb 10 b) (text "&#10;")
    (cond (eqb 13 b) (text "&#13;")
    (b ∷ [])))))))

-- a text, byte by byte
unfoldable pub escape : Bytes → Bytes
escape [] = []
escape (b ∷ s) = escape_byte b ++ escape s

-- digits behind a point, and no point without a digit
unfoldable pub behind_point : Bytes → Bytes
behind_point [] = []
behind_point (b ∷ g) = code "." ∷ b ∷ g

-- millionths below a whole: the digits that matter, with no zeros at the end
abbrev pub mattering : ℕ → Bytes
mattering n = drop_back zero_digit (places BEHIND n)

-- how many digits behind the point matter
abbrev pub matter : ℕ → ℕ
matter x = length (mattering (x % 10 ^ BEHIND))

-- order 6: "The writer pads to that many digits, never cutting a digit that matters."
abbrev pub padded : ℕ → Bytes → Bytes
padded d g = g ++ replicate (d - length g) (code "0")

abbrev pub print_part : ℕ → ℕ → Bytes
print_part n d = behind_point (padded d (mattering n))

-- "decimals with no needless zero, `0.5` for 500000"; from millionths, with d digits behind the point if no more matter, and never more than 6
unfoldable pub print_decimal : ℕ → ℕ → Bytes
print_decimal x d = print_int (x / 10 ^ BEHIND) ++ print_part (x % 10 ^ BEHIND) (min BEHIND d)
