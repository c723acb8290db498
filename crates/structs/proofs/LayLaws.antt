-- Fields laid one behind the other into cells of zeros are the message of these fields.
use mathlib.Core.Path.{◌≡◌, refl, sym, ap, ◌∙◌}
use mathlib.Core.List.{List, [], ◌∷◌, ◌++◌, append_assoc}
use Prim.Native.Nat.{ℕ, suc, ◌+◌, ◌*◌, ◌≤◌}
use native.Mathlib.Omega.{arith}
use lib.ListN.{length, length-append, take, drop, set}
use lib.Seq.{sets-eq, take_at, drop-append-add, drop-drop}
use Rattle.grammar.specs.Bytes.{Bytes}
use Rattle.message.specs.Fields.{Field}
use Rattle.message.specs.Cells.{cell_of, cells_of}
use Rattle.message.specs.Messages.{with_zeros, id_among, message_from}
use Rattle.message.specs.declared.cells.Message.{Message}
use Rattle.message.proofs.BackLaws.{cell_long}
use Rattle.structs.specs.Celled.{zeros, placed, laid, all_laid}

-- three numbers put down
pub put_three : (l : List ℕ) (i x y z : ℕ) → 3 * i + 3 ≤ length l → set (set (set l (3 * i) x) (3 * i + 1) y) (3 * i + 2) z ≡ placed i (x ∷ y ∷ z ∷ []) l
unfolding placed
put_three l i x y z h =
    let at = 3 * i in
    let a : at + 1 ≡ suc at = omega arith in
    let b : at + 2 ≡ suc (suc at) = omega arith in
    ap (λ (n : ℕ). set (set (set l at x) n y) (at + 2) z) a ∙ ap (λ (n : ℕ). set (set (set l at x) (suc at) y) n z) b
    ∙ sets-eq (x ∷ y ∷ z ∷ []) l at h ∙ append_assoc (take at l) (x ∷ y ∷ z ∷ []) (drop (at + 3) l)

-- the cell behind those that are laid
next : (pre rest three : List ℕ) (i : ℕ) → length pre ≡ 3 * i → placed i three (pre ++ rest) ≡ (pre ++ three) ++ drop 3 rest
unfolding placed
next pre rest three i h =
    let e : 3 * i + 3 ≡ length pre + 3 = omega arith in
    ap (λ (y : List ℕ). y ++ (three ++ drop (3 * i + 3) (pre ++ rest))) (take_at pre rest (3 * i) h)
    ∙ ap (λ (n : ℕ). pre ++ (three ++ drop n (pre ++ rest))) e
    ∙ ap (λ (y : List ℕ). pre ++ (three ++ y)) (drop-append-add pre rest 3)
    ∙ sym (append_assoc pre three (drop 3 rest))

all_laid_lem : (l : List Field) (pre rest : List ℕ) (i : ℕ) → length pre ≡ 3 * i → all_laid i l (pre ++ rest) ≡ pre ++ (cells_of l ++ drop (length (cells_of l)) rest)
unfolding all_laid cells_of
all_laid_lem [] pre rest i h = refl
all_laid_lem (x ∷ l) pre rest i h =
    let three = cell_of x in
    let n : length (pre ++ three) ≡ 3 * (i + 1) = let a = length-append pre three in let b = cell_long x in omega arith in
    let e : 3 + length (cells_of l) ≡ length (three ++ cells_of l) = let a = length-append three (cells_of l) in let b = cell_long x in omega arith in
    ap (all_laid (i + 1) l) (next pre rest three i h)
    ∙ all_laid_lem l (pre ++ three) (drop 3 rest) (i + 1) n
    ∙ ap (λ (y : List ℕ). (pre ++ three) ++ (cells_of l ++ y)) (drop-drop (length (cells_of l)) 3 rest ∙ ap (λ (n : ℕ). drop n rest) e)
    ∙ simp append_assoc

-- fields laid from the cell i on, the places counted from i
abbrev laid_past : ℕ → ℕ → List Field → List ℕ → List ℕ
laid_past i n [] c = c
laid_past i n (x ∷ l) c = laid_past i (n + 1) l (laid (i + n) x c)

abbrev pub laid_from : ℕ → List Field → List ℕ → List ℕ
laid_from i [] c = c
laid_from i (x ∷ l) c = laid_past i 1 l (laid i x c)

laid_past_lem : (i n : ℕ) (l : List Field) (c : List ℕ) → all_laid (i + n) l c ≡ laid_past i n l c
unfolding all_laid
laid_past_lem i n [] c = refl
laid_past_lem i n (x ∷ l) c =
    let e : i + n + 1 ≡ i + (n + 1) = omega arith in
    ap (λ (k : ℕ). all_laid k l (laid (i + n) x c)) e ∙ laid_past_lem i (n + 1) l (laid (i + n) x c)

pub laid_from_lem : (i : ℕ) (l : List Field) (c : List ℕ) → all_laid i l c ≡ laid_from i l c
unfolding all_laid
laid_from_lem i [] c = refl
laid_from_lem i (x ∷ l) c = laid_past_lem i 1 l (laid i x c)

-- the message whose cells and id are those of the fields
pub message_laid : (k : ℕ) (l : List Field) {cells : List ℕ} {id : Bytes} → cells ≡ all_laid 0 l zeros → id ≡ id_among l → ◌≡◌ {A = Message} (record { kind = k; cells = cells; id = id }) (message_from k l)
unfolding message_from with_zeros
message_laid k l p q = rw (p, q, all_laid_lem l [] zeros 0 refl)
