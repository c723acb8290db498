-- Demand 3, as far as it needs no code: the theorems about the definitions of `grammar`. Proofs stand in the other files.
use Rattle.std.specs.Prelude.{◌≡◌, refl, List, [], ◌∷◌, ◌++◌, ◌↔◌, true, false, ℕ, ◌<◌, length, leb}
use Rattle.std.proofs.Common.{sym, subst, ◌∙◌, append-nil, arith, length-append}
use Prim.Native.Char.{code}
use Rattle.exact.specs.Exact.{unique, goes, begins_iff}
use Rattle.grammar.specs.Bytes.{Bytes, text, digit, among, ByteString}
use Rattle.grammar.specs.Limits.{ATTRIBUTES}
use Rattle.grammar.specs.Name.{Name}
use Rattle.grammar.specs.Reference.{hex_digit, Digits}
use Rattle.grammar.specs.Value.{is_quote, banned}
use Rattle.grammar.specs.Tree.{Tree}
use Rattle.grammar.specs.Message.{Layout, Laid, Message}
use Rattle.grammar.specs.Answer.{Behind, Open, Answer, ends_at, malformed_at, Answers}
use Rattle.grammar.specs.Cut.{Piece, Cut}
use Rattle.model.specs.Tests.{every_right}
use Rattle.model.specs.Characters.{IsRaw}
use Rattle.model.specs.References.{decimal_begun, hexadecimal_begun}
use Rattle.model.proofs.References.{decimal_open, hexadecimal_open}
use Rattle.model.proofs.Values.{quote_is, quote_stops, ban_ascii, plain_letter}
use Rattle.model.specs.Names.{live}
use Rattle.model.proofs.Names.{name_open}
use Rattle.model.specs.Messages.{message_p}
use Rattle.model.proofs.Messages.{layout_exact, message_exact}
use Rattle.model.specs.Answers.{answer_of, Window}
use Rattle.model.proofs.Answers.{behind, begins, is_open, open_left, longest_dead, answered, answers_are, to_window, from_window}
use Rattle.model.proofs.Cuts.{message_ends, cut_one, other_tail}
use Rattle.model.specs.Completions.{char_begins}
use Rattle.model.proofs.Completions.{char_begins_lem}
use Rattle.model.proofs.MadeOfBytes.{message_bytes}

-- "it has only one reading"
pub one_reading : {w : Bytes} {t t' : Tree} → Message w t → Message w t' → t ≡ t'
one_reading {w} {t} {t'} m m' = (unique message_exact w w t t' [] [] m m' refl).1

-- a message is laid out in one way, so every place and span in it is determined
pub one_layout : {w : Bytes} {l l' : Layout} → Laid w l → Laid w l' → l ≡ l'
one_layout {w} {l} {l'} m m' = (unique layout_exact w w l l' [] [] m m' refl).1

-- "No message is the beginning of another"
pub prefix_free : {w : Bytes} {t t' : Tree} (r : Bytes) → Message w t → Message (w ++ r) t' → r ≡ []
prefix_free {w} {t} {t'} r m m' = (unique message_exact w (w ++ r) t t' r [] m m' (sym (append-nil (w ++ r)))).2

-- "so a run of bytes cuts into messages and glue in one way at most"
pub cut_unique : {s g g' : Bytes} {l l' : List Piece} → Cut s l g → Cut s l' g' → (l ≡ l') × (g ≡ g')
cut_unique = cut_one

-- every input has one of the four answers
pub answers_total : (s : Bytes) → (a : Answer) × Answers s a
answers_total s = (answer_of s, answered s)

-- and no two
pub answers_only : (s : Bytes) (a a' : Answer) → Answers s a → Answers s a' → a ≡ a'
answers_only s a a' p q = answers_are a (behind s) p ∙ sym (answers_are a' (behind s) q)

-- the first 65,536 bytes after the glue decide the answer
pub window : {s g x w : Bytes} (a : Answer) → Behind s g x → Window x w → (Answers s a ↔ Answers (g ++ w) a)
window a p v = (to_window p v a, from_window p v a)

-- nothing behind the end of a message matters: with another tail, the same answer
pub tail_free : (s r r' : Bytes) (start : ℕ) → Answers (s ++ r) (ends_at start (length s)) → Answers (s ++ r') (ends_at start (length s))
tail_free = other_tail

-- a beginning of an open beginning is open
pub open_down : (u v : Bytes) → Open (u ++ v) → Open u
open_down = open_left

-- "malformed, at the first byte after which none could": what stands before the place is open, with the byte there it is not
pub place_first : (s : Bytes) (start place : ℕ) → Answers s (malformed_at start place)
    → (g : Bytes) × (u : Bytes) × (b : ℕ) × (r : Bytes) × Behind s g (u ++ b ∷ r) × (place ≡ length (g ++ u)) × Open u × ¬ Open (u ++ b ∷ [])
place_first s start place p =
    let (b, r, i, d) = longest_dead p.longest p.shorter in
    (p.g, p.u, b, r, subst (λ (y : Bytes). Behind s p.g y) i p.behind, p.at_place ∙ sym (length-append p.g p.u), p.longest.is_open, d)

-- a message is a string of bytes
pub made_of_bytes : {w : Bytes} {t : Tree} → Message w t → ByteString w
made_of_bytes = message_bytes

-- so what could still complete a beginning is one too
pub completed_by_bytes : {x : Bytes} → Open x → (r : Bytes) × (t : Tree) × Message (x ++ r) t × ByteString r
completed_by_bytes {x} o = (o.rest, o.reading, o.message, every_right (λ b. leb b 255) x o.rest (message_bytes o.message))

-- "ends with the `>` that closes the root"
pub ends_with_gt : {w : Bytes} {t : Tree} → Message w t → (v : Bytes) × (w ≡ v ++ text ">")
ends_with_gt = message_ends

-- which beginnings of an attribute name can still become one that is none of the earlier names
pub name_begins : (earlier : List Bytes) → length earlier < ATTRIBUTES → (n : Bytes) → (live earlier n ≡ true) ↔ ((m : Bytes) × Name (n ++ m) × (among earlier (n ++ m) ≡ false))
name_begins earlier h n = name_open earlier (omega arith) n

-- which digits of a numeric reference can still be completed
pub decimal_begins : (n : Bytes) → (decimal_begun n ≡ true) ↔ ((m : Bytes) × Digits digit 10 7 (n ++ m))
decimal_begins = decimal_open

pub hexadecimal_begins : (n : Bytes) → (hexadecimal_begun n ≡ true) ↔ ((m : Bytes) × Digits hex_digit 16 6 (n ++ m))
hexadecimal_begins = hexadecimal_open

-- which bytes of a character that stands raw between quotes q can still be completed
pub character_begins : (q : ℕ) → is_quote q ≡ true → (w : Bytes) → (char_begins (banned q) w ≡ true) ↔ ((m : Bytes) × (c : ℕ) × IsRaw (banned q) (w ++ m) c)
character_begins q h w = char_begins_lem (banned q) (ban_ascii q (quote_stops (quote_is q h))) (code "A") (plain_letter q (quote_stops (quote_is q h))) w

-- whether a beginning is open is computed
pub open_iff : (x : Bytes) → (goes (message_p x) ≡ true) ↔ Open x
open_iff x = let e = begins_iff message_exact x in (λ h. is_open (e.0 h), λ o. e.1 (begins o))
