-- A run of bytes cuts into messages and glue in one way at most; what stands behind a message does not matter.
use Rattle.std.specs.Prelude.{◌≡◌, refl, List, [], ◌∷◌, ◌++◌, true, false, ℕ, length}
use Rattle.std.proofs.Common.{sym, ap, subst, ◌∙◌, append_assoc, arith, length-append}
use Rattle.exact.specs.Exact.{unique}
use Rattle.exact.specs.Chain.{clash}
use Rattle.exact.specs.Byte.{Starts, starts}
use Rattle.grammar.specs.Bytes.{Bytes, text, every}
use Rattle.grammar.specs.Glue.{is_glue, Glue}
use Rattle.grammar.specs.Tree.{Tree}
use Rattle.grammar.specs.Attribute.{spell_attributes}
use Rattle.grammar.specs.Filler.{spell_filler}
use Rattle.grammar.specs.Element.{spell_element, spell_end}
use Rattle.grammar.specs.Declaration.{spell_declaration}
use Rattle.grammar.specs.Message.{Root, Layout, plain, declared, hermes, spell_root, spell_layout, Message}
use Rattle.grammar.specs.Answer.{leads, Behind, ends_at, Answers}
use Rattle.grammar.specs.Cut.{Piece, Cut, cut_end, cut_piece}
use Rattle.model.specs.Tests.{and_left, and_right}
use Rattle.model.proofs.Messages.{message_exact, laid_starts}
use Rattle.model.proofs.Answers.{behind_one}
use Rattle.model.specs.Cuts.{Shut}

pub message_starts : {w : Bytes} {t : Tree} → Message w t → Starts is_glue false w
message_starts m = laid_starts m.laid

pub message_ends : {w : Bytes} {t : Tree} → Message w t → Shut w
message_ends m = subst Shut (sym m.laid.spelt) (layout m.layout)
  where
    front : (a : Bytes) {w : Bytes} → Shut w → Shut (a ++ w)
    front a (v, e) = (a ++ v, ap (λ (y : Bytes). a ++ y) e ∙ sym (append_assoc a v (text ">")))

    end : (n g : Bytes) → Shut (spell_end n g)
    end n g = front (text "</") (front n (front g ([], refl)))

    root : (r : Root) → Shut (spell_root r)
    root r = front (text "<") (front hermes (front (spell_attributes r.attributes) (front r.trail (front (text ">")
        (front (spell_filler r.before) (front (spell_element r.inner) (front (spell_filler r.after) (end hermes r.shut))))))))

    layout : (l : Layout) → Shut (spell_layout l)
    layout (plain r) = root r
    layout (declared d f r) = front (spell_declaration d) (front (spell_filler f) (root r))

-- a message behind glue: the glue is all the leading glue
pub piece_behind : {s g w : Bytes} {t : Tree} (r : Bytes) → Glue g → Message w t → s ≡ g ++ (w ++ r) → Behind s g (w ++ r)
piece_behind {s} {g} {w} r h m e = record { whole = e; glue = h; most = go (message_starts m) }
  where
    go : Starts is_glue false w → leads (w ++ r) ≡ false
    go (starts b w' i k) = rw i k

-- glue holds no message
glue_no_message : {s w : Bytes} {t : Tree} (g r : Bytes) → Glue s → Message w t → s ≡ g ++ (w ++ r) → ⊥
glue_no_message {s} {w} g r h m e = go (message_starts m)
  where
    all : Glue (g ++ (w ++ r))
    all = rw e at h

    later : (g x : Bytes) → Glue (g ++ x) → Glue x
    later [] x k = k
    later (b ∷ g) x k = later g x (and_right (is_glue b) (every is_glue (g ++ x)) k)

    go : Starts is_glue false w → ⊥
    go (starts b w' i k) =
        let j : every is_glue (b ∷ w' ++ r) ≡ true = rw i at (later g (w ++ r) all) in
        clash (sym (and_left (is_glue b) (every is_glue (w' ++ r)) j) ∙ k)

pub cut_one : {s g g' : Bytes} {l l' : List Piece} → Cut s l g → Cut s l' g' → (l ≡ l') × (g ≡ g')
cut_one (cut_end h) (cut_end k) = (refl, refl)
cut_one (cut_end h) (cut_piece {r} {p} k m e c) = absurd (glue_no_message p.glue r h m e)
cut_one (cut_piece {r} {p} k m e c) (cut_end h) = absurd (glue_no_message p.glue r h m e)
cut_one {s} {g} {g'} (cut_piece {r} {p} {l} k m e c) (cut_piece {r = r'} {p = p'} {l = l'} k' m' e' c') =
    let z = behind_one (piece_behind r k m e) (piece_behind r' k' m' e') in
    let u = unique message_exact p.bytes p'.bytes p.reading p'.reading r r' m m' z.1 in
    let z0 = z.0 in
    let u0 = u.0 in
    let u1 = u.1 in
    let q : p ≡ p' = same_piece z0 u0 u1 in
    go q (cut_one c (rw (← u.2) at c'))
  where
    same_piece : p.glue ≡ p'.glue → p.bytes ≡ p'.bytes → p.reading ≡ p'.reading → p ≡ p'
    same_piece a b d = ap (λ (x : Bytes). record { glue = x; bytes = p.bytes; reading = p.reading }) a
        ∙ ap (λ (x : Bytes). record { glue = p'.glue; bytes = x; reading = p.reading }) b ∙ ap (λ (x : Tree). record { glue = p'.glue; bytes = p'.bytes; reading = x }) d

    go : p ≡ p' → (l ≡ l') × (g ≡ g') → (p ∷ l ≡ p' ∷ l') × (g ≡ g')
    go q (i, j) = (cc, j)

-- a message is read in front of any tail
pub same_length : (u v x y : Bytes) → u ++ x ≡ v ++ y → length u ≡ length v → u ≡ v
same_length [] [] x y e h = refl
same_length [] (c ∷ v) x y e h = absurd (omega arith)
same_length (b ∷ u) [] x y e h = absurd (omega arith)
same_length (b ∷ u) (c ∷ v) x y e h =
    let i : b ≡ c = cc in
    let j : u ++ x ≡ v ++ y = cc in
    let k = same_length u v x y j (omega arith) in cc

pub other_tail : (s r r' : Bytes) (start : ℕ) → Answers (s ++ r) (ends_at start (length s)) → Answers (s ++ r') (ends_at start (length s))
other_tail s r r' start p =
    let e : (p.g ++ p.bytes) ++ p.rest ≡ s ++ r = append_assoc p.g p.bytes p.rest ∙ sym p.behind.whole in
    let k : p.g ++ p.bytes ≡ s = same_length (p.g ++ p.bytes) s p.rest r e (omega (arith, p.ends, length-append p.g p.bytes)) in
    record {
      g = p.g;
      bytes = p.bytes;
      rest = r';
      reading = p.reading;
      behind = piece_behind r' p.behind.glue p.message (ap (λ (y : Bytes). y ++ r') (sym k) ∙ append_assoc p.g p.bytes r');
      message = p.message;
      fits = p.fits;
      starts = p.starts;
      ends = p.ends;
    }
