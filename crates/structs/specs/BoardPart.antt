-- What a BoardAvailable and a BoardForecast say of the board, behind its id and who gave it: its struct and its fields.
use Rattle.std.specs.Prelude.{List, [], ◌∷◌, ℕ, ◌+◌}
use Rattle.message.specs.Fields.{Field, a_words, a_whole, a_measure, the_words, the_whole, the_measure}
use Rattle.structs.specs.Celled.{words_at, whole_at, measure_at}
use Rattle.structs.specs.OfKind.{nth}
use Rattle.structs.specs.declared.board_part.Board.{Board}

-- "FailedBoard 0..2; ProductTypeId text 254 opt; FlippedBoard 0..2; TopBarcode, BottomBarcode text 254 opt; Length, Width, Thickness, ConveyorSpeed,
-- TopClearanceHeight, BottomClearanceHeight, Weight positive opt; WorkOrderId text 80 opt": the struct of its fields; without fields all is absent
unfoldable pub part_from : List Field → Board
part_from l = record {
  failed = the_whole (nth 0 l);
  product = the_words (nth 1 l);
  flipped = the_whole (nth 2 l);
  top = the_words (nth 3 l);
  bottom = the_words (nth 4 l);
  length = the_measure (nth 5 l);
  width = the_measure (nth 6 l);
  thickness = the_measure (nth 7 l);
  speed = the_measure (nth 8 l);
  above = the_measure (nth 9 l);
  below = the_measure (nth 10 l);
  weight = the_measure (nth 11 l);
  order = the_words (nth 12 l);
}

-- its fields
unfoldable pub part_fields : Board → List Field
part_fields b =
    a_whole b.failed
    ∷ a_words b.product
    ∷ a_whole b.flipped
    ∷ a_words b.top
    ∷ a_words b.bottom
    ∷ a_measure b.length
    ∷ a_measure b.width
    ∷ a_measure b.thickness
    ∷ a_measure b.speed
    ∷ a_measure b.above
    ∷ a_measure b.below
    ∷ a_measure b.weight
    ∷ a_words b.order
    ∷ []

-- the struct of the cells from the i-th on
unfoldable pub part_at : List ℕ → ℕ → Board
part_at c i = record {
  failed = whole_at c i;
  product = words_at c (i + 1);
  flipped = whole_at c (i + 2);
  top = words_at c (i + 3);
  bottom = words_at c (i + 4);
  length = measure_at c (i + 5);
  width = measure_at c (i + 6);
  thickness = measure_at c (i + 7);
  speed = measure_at c (i + 8);
  above = measure_at c (i + 9);
  below = measure_at c (i + 10);
  weight = measure_at c (i + 11);
  order = words_at c (i + 12);
}
