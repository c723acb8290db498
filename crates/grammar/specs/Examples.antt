-- Worked examples: what the definitions say of bytes, values, names, depths and one whole message. They hold by computation.
use Rattle.std.specs.Prelude.{◌≡◌, refl, List, [], ◌∷◌, ◌++◌, Bool, true, false, ◌&&◌, ◌||◌, not, ℕ, zero, suc, ◌+◌, ◌*◌, ◌≤◌, length, eqb}
use Prim.Native.Char.{code}
use Prim.Native.String.{String}
use Rattle.std.proofs.Common.{arith}
use Rattle.grammar.specs.Bytes.{Bytes, text, within, digit, every, non_empty}
use Rattle.grammar.specs.Limits.{MESSAGE, NAME, ATTRIBUTES, DEPTH}
use Rattle.grammar.specs.Glue.{is_glue, Glue}
use Rattle.grammar.specs.Name.{letter, name_start, name_byte, shaped, Name}
use Rattle.grammar.specs.Character.{is_char, utf8}
use Rattle.grammar.specs.Reference.{amp, lt, gt, quot, apos, named, decimal, hexadecimal, hex_digit, worth, GoodReference, good_named, good_decimal, good_hexadecimal, read_reference}
use Rattle.grammar.specs.Value.{raw, ref, is_quote, banned, good_raw, good_ref, good_last, good_item, read_item, read_value}
use Rattle.grammar.specs.Attribute.{Attribute, GoodAttribute, good_none, good_each, fresh, GoodAttributes}
use Rattle.grammar.specs.Comment.{Mark, mark, dash_mark, GoodMark, good_mark, good_dash, GoodMarks, marks_end, marks_then}
use Rattle.grammar.specs.Filler.{Site, in_root, below_root, Bit, in_text, comment, Filler, spell_filler, GoodBit, good_glue, good_text, good_comment, GoodBits, bits_end, bits_then, GoodFiller}
use Rattle.grammar.specs.Tree.{tree, no_trees, tree_then}
use Rattle.grammar.specs.Element.{Tag, Element, empty, full, Content, bare, child, GoodTag, GoodElement, good_empty, good_full, GoodContent, good_bare, good_child}
use Rattle.grammar.specs.Declaration.{Setting, absent, is_version, is_encoding, is_standalone, good_absent}
use Rattle.grammar.specs.Message.{Root, Layout, plain, declared, spell_layout, GoodRoot, GoodLayout, good_plain, good_declared, read_layout, Message}
use Rattle.grammar.specs.Answer.{answer_number, ends_at, more_from, malformed_at, too_long_from}

-- characters: both ends of each range, and what stands beside them
pub chars : is_char 9 && is_char 10 && is_char 13 && is_char 0x20 && is_char 0xD7FF && is_char 0xE000 && is_char 0xFFFD && is_char 0x10000 && is_char 0x10FFFF ≡ true
unfolding is_char within
chars = refl

pub no_chars : is_char 8 || is_char 11 || is_char 14 || is_char 0x1F || is_char 0xD800 || is_char 0xDFFF || is_char 0xFFFE || is_char 0xFFFF || is_char 0x110000 ≡ false
unfolding is_char within
no_chars = refl

-- UTF-8 of 1, 2, 3 and 4 bytes
pub utf8_lengths : utf8 0x41 ++ (utf8 0xE9 ++ (utf8 0x20AC ++ utf8 0x1F600)) ≡ 0x41 ∷ 0xC3 ∷ 0xA9 ∷ 0xE2 ∷ 0x82 ∷ 0xAC ∷ 0xF0 ∷ 0x9F ∷ 0x98 ∷ 0x80 ∷ []
unfolding utf8
utf8_lengths = refl

-- no byte passes
abbrev none_of : (ℕ → Bool) → Bytes → Bool
none_of t w = every (λ b. not (t b)) w

-- byte classes: both ends of each range, and what stands beside them
pub classes :
    (every letter (text "AZaz") ≡ true)
    × (none_of letter (text "@[`{") ≡ true)
    × (every digit (text "09") ≡ true)
    × (none_of digit (text "/:") ≡ true)
    × (every hex_digit (text "09AFaf") ≡ true)
    × (none_of hex_digit (text "/:@G`g") ≡ true)
    × (every is_quote (text "\"'") ≡ true)
    × (none_of is_quote (text "`<") ≡ true)
unfolding letter digit hex_digit is_quote within
classes = (refl, refl, refl, refl, refl, refl, refl, refl)

-- what may not stand raw in double quotes: `<`, `&` and the quote
pub raw_bytes : (every (banned (code "\"")) (text "<&\"") ≡ true) × (none_of (banned (code "\"")) (text ">'a") ≡ true)
unfolding banned
raw_bytes = (refl, refl)

-- the limits
pub limits : (MESSAGE ≡ 64 * 1024) × (NAME ≡ 8 * 8) × (ATTRIBUTES ≡ 4 * 8) × (DEPTH ≡ 3 + 3)
limits = (refl, refl, refl, refl)

pub answer_numbers : (answer_number (ends_at 0 0) ≡ 0) × (answer_number (more_from 0) ≡ 1) × (answer_number (malformed_at 0 0) ≡ 2) × (answer_number (too_long_from 0) ≡ 3)
answer_numbers = (refl, refl, refl, refl)

-- the words of a declaration
pub versions : (is_version (text "1.0") && is_version (text "1.1") ≡ true) × (is_version (text "1.2") || is_version (text "2.0") || is_version (text "1.") || is_version (text "1.00") ≡ false)
versions = (refl, refl)

pub encodings : (is_encoding (text "UTF-8") && is_encoding (text "utf-8") && is_encoding (text "uTf-8") ≡ true) × (is_encoding (text "UTF-16") || is_encoding (text "UTF8") || is_encoding (text "VTF-8") ≡ false)
encodings = (refl, refl)

pub standalones : (is_standalone (text "yes") && is_standalone (text "no") ≡ true) × (is_standalone (text "YES") || is_standalone (text "") || is_standalone (text "yess") ≡ false)
standalones = (refl, refl)

-- glue
pub all_glue : Glue (text " \t\r\n")
unfolding is_glue
all_glue = refl

pub no_glue : is_glue 11 || is_glue 0x85 || is_glue 0xA0 ≡ false
unfolding is_glue
no_glue = refl

-- names
abbrev name64 : Bytes
name64 = text "_123456789abcdefghijABCDEFGHIJ-.:_0123456789ZYXWVUTSRQPONMLKJIHG"

pub longest_name : Name name64
unfolding name_byte name_start letter digit within
longest_name = record { shape = refl; one = refl; short = omega arith }

pub too_long_name : ¬ Name (name64 ++ text "a")
too_long_name n = let h = n.short in omega arith

pub no_empty_name : ¬ Name []
no_empty_name n = let h : ◌≡◌ {A = ℕ} 0 1 = let e = n.one in cc in omega arith

pub no_name_starts : name_start (code "0") || name_start (code "-") || name_start (code ":") || name_byte (code "/") || name_byte 0xC3 ≡ false
unfolding name_byte name_start letter digit within
no_name_starts = refl

-- references: seven decimal and six hex digits are the most, and they name a character
pub longest_references : GoodReference (decimal (text "1114111")) × GoodReference (hexadecimal (text "10fFfF"))
unfolding is_char within digit hex_digit worth
longest_references =
    (good_decimal {n = text "1114111"} (record { digits = refl; one = refl; short = omega arith; names = refl }), good_hexadecimal {n = text "10fFfF"} (record { digits = refl; one = refl; short = omega arith; names = refl }))

pub too_long_references : ¬ GoodReference (decimal (text "00000065")) × ¬ GoodReference (hexadecimal (text "0000041"))
too_long_references = (eight_digits, seven_digits)
  where
    eight_digits : GoodReference (decimal (text "00000065")) → ⊥
    eight_digits (good_decimal d) = let h = d.short in omega arith

    seven_digits : GoodReference (hexadecimal (text "0000041")) → ⊥
    seven_digits (good_hexadecimal d) = let h = d.short in omega arith

pub no_such_character : is_char (read_reference (hexadecimal (text "D800"))) || is_char (read_reference (decimal (text "0"))) ≡ false
unfolding is_char within worth
no_such_character = refl

-- values: tab, LF, CR LF and CR read as a space each; what is referenced reads as itself; NEL is kept
pub spaces : read_value (raw 9 ∷ raw 10 ∷ raw 13 ∷ raw 10 ∷ raw 13 ∷ raw 13 ∷ raw 10 ∷ []) ≡ text "     "
unfolding read_value read_item
spaces = refl

pub referenced : read_value (ref (decimal (text "9")) ∷ raw 13 ∷ ref (decimal (text "10")) ∷ ref (hexadecimal (text "D")) ∷ raw 10 ∷ []) ≡ 9 ∷ 32 ∷ 10 ∷ 13 ∷ 32 ∷ []
unfolding read_value read_item utf8 worth
referenced = refl

pub named_references : read_value (ref (named amp) ∷ ref (named lt) ∷ ref (named gt) ∷ ref (named quot) ∷ ref (named apos) ∷ []) ≡ text "&<>\"'"
unfolding read_value read_item utf8
named_references = refl

pub line_ends_kept : read_value (raw 13 ∷ raw 0x85 ∷ raw 0x2028 ∷ []) ≡ 32 ∷ 0xC2 ∷ 0x85 ∷ 0xE2 ∷ 0x80 ∷ 0xA8 ∷ []
unfolding read_value read_item utf8
line_ends_kept = refl

-- six open elements at most: the root, and five one in another below it
abbrev bare_tag : String → Tag
bare_tag n = record { name = text n; attributes = []; trail = [] }

abbrev none : Filler
none = []

abbrev around : String → Element → Element
around n e = full (bare_tag n) (child none e (bare none)) []

abbrev root_of : Element → Root
root_of e = record { attributes = []; trail = []; before = none; inner = e; after = none; shut = [] }

abbrev five : Element
five = around "A" (around "B" (around "C" (around "D" (empty (bare_tag "E")))))

good_none_filler : {s : Site} → GoodFiller s none
good_none_filler = bits_end

no_attributes : GoodAttributes []
no_attributes = record { few = omega arith; fresh_names = refl; each = good_none }

good_tag : (n : String) → shaped (text n) ≡ true → non_empty (text n) ≡ true → length (text n) ≤ NAME → GoodTag (bare_tag n)
good_tag n h k l = record { name = record { shape = h; one = k; short = l }; attributes = no_attributes; trail = refl }

good_around : {d : ℕ} {e : Element} (n : String) → GoodTag (bare_tag n) → GoodElement d e → GoodElement (suc d) (around n e)
good_around n t g = good_full t (good_child good_none_filler g (good_bare good_none_filler)) refl

pub six_levels : GoodRoot (root_of five)
unfolding name_byte name_start letter digit within
six_levels = record {
  attributes = no_attributes;
  trail = refl;
  before = good_none_filler;
  inner = good_around "A" (good_tag "A" refl refl (omega arith)) (good_around "B" (good_tag "B" refl refl (omega arith)) (good_around "C" (good_tag "C" refl refl (omega arith))
      (good_around "D" (good_tag "D" refl refl (omega arith)) (good_empty (good_tag "E" refl refl (omega arith))))));
  after = good_none_filler;
  shut = refl;
}

pub seven_levels : ¬ GoodRoot (root_of (around "Z" five))
seven_levels g = at4 g.inner
  where
    no_child_case : {d : ℕ} {c : Content} → GoodContent d c → d ≡ 0 → (f : Filler) (e : Element) (r : Content) → c ≡ child f e r → ⊥
    no_child_case (good_bare y) z f e r q = let i : ◌≡◌ {A = ℕ} 0 1 = cc in omega arith
    no_child_case (good_child y x g) z f e r q = omega arith

    at0 : (n : String) (e : Element) → GoodElement 0 (around n e) → ⊥
    at0 n e (good_full t g h) = no_child_case g refl none e (bare none) refl

    at4 : GoodElement 4 (around "Z" five) → ⊥
    at4 (good_full t (good_child f (good_full t1 (good_child f1 (good_full t2 (good_child f2 (good_full t3 (good_child f3 g c3) h3) c2) h2) c1) h1) c) h) = at0 "D" (empty (bare_tag "E")) g

-- a whole message: spelt, good and read
abbrev one_zero : Setting
one_zero = record { before = text " "; mid = []; after = []; quote = code "'"; word = text "1.0" }

abbrev timestamp : Attribute
timestamp = record { before = text " "; name = text "Timestamp"; mid = []; after = []; quote = code "\""; value = raw (code "x") ∷ [] }

abbrev id_attribute : Attribute
id_attribute = record { before = text " "; name = text "Id"; mid = text " "; after = text "\t"; quote = code "'"; value = raw (code "a") ∷ raw 9 ∷ ref (named amp) ∷ [] }

abbrev check_alive : Tag
check_alive = record { name = text "CheckAlive"; attributes = id_attribute ∷ []; trail = text " " }

abbrev example : Layout
example =
    declared (record { version = one_zero; encoding = absent; standalone = absent; trail = [] }) (in_text (raw (code "\n")) ∷ comment (mark (code "c") ∷ []) ∷ [])
    (record { attributes = timestamp ∷ []; trail = []; before = none; inner = empty check_alive; after = none; shut = text " " })

pub example_spelt : spell_layout example ≡ text "<?xml version='1.0'?>\n<!--c--><Hermes Timestamp=\"x\"><CheckAlive Id =\t'a\t&amp;' /></Hermes >"
unfolding utf8
example_spelt = refl

pub example_read : read_layout example
    ≡ tree (text "Hermes") (record { name = text "Timestamp"; value = text "x" } ∷ []) (tree_then (tree (text "CheckAlive") (record { name = text "Id"; value = text "a &" } ∷ []) no_trees) no_trees)
unfolding read_value read_item utf8
example_read = refl

pub example_good : GoodLayout example
unfolding is_glue is_quote is_char banned name_byte name_start letter digit within
example_good = good_declared (record { version = record { before = refl; apart = refl; mid = refl; after = refl; quote = refl; word = refl }; encoding = good_absent; standalone = good_absent; trail = refl })
    (bits_then (good_glue refl) (bits_then (good_comment (marks_then (good_mark refl refl) marks_end)) bits_end))
    (record {
      attributes = good_one timestamp (record { before = refl; apart = refl; name = record { shape = refl; one = refl; short = omega arith }; mid = refl; after = refl; quote = refl; value = good_item (good_raw refl refl) good_last });
      trail = refl;
      before = good_none_filler;
      inner = good_empty {t = check_alive} (record {
        name = record { shape = refl; one = refl; short = omega arith };
        attributes = good_one id_attribute (record {
          before = refl;
          apart = refl;
          name = record { shape = refl; one = refl; short = omega arith };
          mid = refl;
          after = refl;
          quote = refl;
          value = good_item (good_raw refl refl) (good_item (good_raw refl refl) (good_item (good_ref good_named) good_last));
        });
        trail = refl;
      });
      after = good_none_filler;
      shut = refl;
    })
  where
    good_one : (a : Attribute) → GoodAttribute a → GoodAttributes (a ∷ [])
    good_one a g = record { few = omega arith; fresh_names = refl; each = good_each g good_none }

pub example_message : Message (spell_layout example) (read_layout example)
example_message = record { layout = example; laid = record { good = example_good; spelt = refl }; reads = refl }

-- no name twice, and at most 32 attributes
pub twice : fresh [] (timestamp ∷ id_attribute ∷ timestamp ∷ []) ≡ false
twice = refl

abbrev copies : ℕ → List Attribute
copies zero = []
copies (suc n) = timestamp ∷ copies n

pub too_many : ¬ GoodAttributes (copies 33)
too_many g = let h = g.few in omega arith

pub not_too_many : length (copies 32) ≤ ATTRIBUTES
not_too_many = omega arith

-- characters of text, one by one
abbrev chars_of : Bytes → Filler
chars_of [] = []
chars_of (b ∷ w) = in_text (raw b) ∷ chars_of w

no_such : {b : Bool} → b ≡ true → b ≡ false → ⊥
no_such h k = let z : ◌≡◌ {A = ℕ} 0 1 = cc in omega arith

-- comments: a `-` stands alone, `&`, `<` and `]]>` stand for themselves; `<!--->` opens one that holds `->`
pub comments : spell_filler (comment [] ∷ comment (dash_mark (code ">") ∷ mark (code "&") ∷ mark (code "<") ∷ []) ∷ []) ≡ text "<!----><!--->&<-->"
unfolding utf8
comments = refl

pub good_comments : {s : Site} → GoodFiller s (comment [] ∷ comment (dash_mark (code ">") ∷ mark (code "&") ∷ mark (code "<") ∷ []) ∷ [])
unfolding is_char within
good_comments = bits_then (good_comment marks_end) (bits_then (good_comment (marks_then (good_dash refl refl) (marks_then (good_mark refl refl) (marks_then (good_mark refl refl) marks_end)))) bits_end)

-- no `--` in a comment, and no control character
pub no_marks : ¬ GoodMark (mark (code "-")) × ¬ GoodMark (dash_mark (code "-")) × ¬ GoodMark (mark 1) × ¬ GoodMark (dash_mark 0xFFFE)
unfolding is_char within
no_marks = (two_dashes, three_dashes, control, none_such)
  where
    two_dashes : GoodMark (mark (code "-")) → ⊥
    two_dashes (good_mark h k) = no_such {b = true} refl k

    three_dashes : GoodMark (dash_mark (code "-")) → ⊥
    three_dashes (good_dash h k) = no_such {b = true} refl k

    control : GoodMark (mark 1) → ⊥
    control (good_mark h k) = no_such h refl

    none_such : GoodMark (dash_mark 0xFFFE) → ⊥
    none_such (good_dash h k) = no_such h refl

-- in the root stands glue, and no text
pub root_fillers : GoodFiller in_root (chars_of (text " \t\r\n")) × ¬ GoodFiller in_root (chars_of (text "x")) × ¬ GoodFiller in_root (in_text (ref (named amp)) ∷ [])
unfolding is_glue
root_fillers = (bits_then (good_glue refl) (bits_then (good_glue refl) (bits_then (good_glue refl) (bits_then (good_glue refl) bits_end))), letter_there, reference_there)
  where
    no_reference : {s : Site} {n : ℕ} {b : Bit} → GoodBit s n b → s ≡ in_root → b ≡ in_text (ref (named amp)) → ⊥
    no_reference (good_glue h) e q = let z : ◌≡◌ {A = ℕ} 0 1 = cc in omega arith
    no_reference (good_text h) e q = let z : ◌≡◌ {A = ℕ} 0 1 = cc in omega arith
    no_reference (good_comment h) e q = let z : ◌≡◌ {A = ℕ} 0 1 = cc in omega arith

    letter_there : GoodFiller in_root (chars_of (text "x")) → ⊥
    letter_there (bits_then (good_glue h) r) = no_such h refl

    reference_there : GoodFiller in_root (in_text (ref (named amp)) ∷ []) → ⊥
    reference_there (bits_then b r) = no_reference b refl refl

-- below the root stands text: glue, `>` and `]]` are characters of it, `<` and `&` are not
pub texts : GoodFiller below_root (chars_of (text "\n]] ]>")) × ¬ GoodFiller below_root (chars_of (text "<")) × ¬ GoodFiller below_root (chars_of (text "&"))
unfolding is_char within banned
texts =
    (bits_then (good_text (good_raw refl refl)) (bits_then (good_text (good_raw refl refl)) (bits_then (good_text (good_raw refl refl)) (bits_then (good_text (good_raw refl refl)) (bits_then (good_text (good_raw refl refl)) (bits_then (good_text (good_raw refl refl)) bits_end))))), opens, refers)
  where
    opens : GoodFiller below_root (chars_of (text "<")) → ⊥
    opens (bits_then (good_text (good_raw h k)) r) = no_such {b = true} refl k

    refers : GoodFiller below_root (chars_of (text "&")) → ⊥
    refers (bits_then (good_text (good_raw h k)) r) = no_such {b = true} refl k

-- `]]>` does not, nor `]]]>`; with a reference or a comment between it is another thing
pub no_end_of_cdata : ¬ GoodFiller below_root (chars_of (text "]]>")) × ¬ GoodFiller below_root (chars_of (text "]]]>"))
unfolding banned
no_end_of_cdata = (two_brackets, three_brackets)
  where
    two_brackets : GoodFiller below_root (chars_of (text "]]>")) → ⊥
    two_brackets (bits_then a (bits_then b (bits_then (good_text (good_raw h k)) r))) = no_such {b = true} refl k

    three_brackets : GoodFiller below_root (chars_of (text "]]]>")) → ⊥
    three_brackets (bits_then a (bits_then b (bits_then c (bits_then (good_text (good_raw h k)) r)))) = no_such {b = true} refl k

pub parted : GoodBits below_root 2 (in_text (ref (named gt)) ∷ in_text (raw (code ">")) ∷ []) × GoodBits below_root 2 (comment [] ∷ in_text (raw (code ">")) ∷ [])
unfolding is_char within banned
parted =
    (bits_then (good_text (good_ref good_named)) (bits_then (good_text (good_raw refl refl)) bits_end), bits_then (good_comment marks_end) (bits_then (good_text (good_raw refl refl)) bits_end))

-- a message with text, and with a comment that holds an end tag: no part of its reading
abbrev marks_of : Bytes → List Mark
marks_of [] = []
marks_of (b ∷ w) = mark b ∷ marks_of w

abbrev remarked : Layout
remarked = plain (root_of (full (bare_tag "X") (bare (in_text (raw (code "a")) ∷ comment (marks_of (text "</X></Hermes>")) ∷ [])) []))

pub remarked_spelt : spell_layout remarked ≡ text "<Hermes><X>a<!--</X></Hermes>--></X></Hermes>"
unfolding utf8
remarked_spelt = refl

pub remarked_read : read_layout remarked ≡ tree (text "Hermes") [] (tree_then (tree (text "X") [] no_trees) no_trees)
remarked_read = refl

pub remarked_good : GoodLayout remarked
unfolding is_char banned name_byte name_start letter digit within
remarked_good = good_plain (record {
  attributes = no_attributes;
  trail = refl;
  before = good_none_filler;
  inner = good_full (good_tag "X" refl refl (omega arith)) (good_bare (bits_then (good_text (good_raw refl refl)) (bits_then (good_comment (marked (text "</X></Hermes>") refl)) bits_end))) refl;
  after = good_none_filler;
  shut = refl;
})
  where
    both : (y z : Bool) → y && z ≡ true → (y ≡ true) × (z ≡ true)
    both true z h = (refl, h)
    both false z h = absurd (no_such h refl)

    no_dash : (z : Bool) → not z ≡ true → z ≡ false
    no_dash true h = absurd (no_such h refl)
    no_dash false h = refl

    marked : (w : Bytes) → every (λ b. is_char b && not (eqb (code "-") b)) w ≡ true → GoodMarks (marks_of w)
    marked [] h = marks_end
    marked (b ∷ w) h =
        let (a, r) = both (is_char b && not (eqb (code "-") b)) (every (λ b. is_char b && not (eqb (code "-") b)) w) h in
        let (i, d) = both (is_char b) (not (eqb (code "-") b)) a in
        marks_then (good_mark i (no_dash (eqb (code "-") b) d)) (marked w r)
