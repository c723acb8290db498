-- BoardAvailable: its struct and its fields.
use Rattle.std.specs.Prelude.{List, [], ◌∷◌, ◌++◌, drop}
use Rattle.lane.specs.Names.{BoardAvailable}
use Rattle.message.specs.Fields.{Field, a_words, a_whole, a_guid, the_words, the_whole, the_id}
use Rattle.message.specs.declared.cells.Message.{Message}
use Rattle.structs.specs.BoardPart.{part_from, part_fields}
use Rattle.structs.specs.OfKind.{nth, of_kind}
use Rattle.structs.specs.declared.boards.BoardAvailable.{BoardAvailable as Available}

-- "BoardId GUID; BoardIdCreatedBy non-empty text 80", what it says of the board, "Route 0..65535 opt; BatchId text 80 opt": the struct of its fields;
-- without fields all is absent
unfoldable pub board_from : List Field → Available
board_from l = record {
  id = the_id (nth 0 l);
  by = the_words (nth 1 l);
  board = part_from (drop 2 l);
  route = the_whole (nth 15 l);
  batch = the_words (nth 16 l);
}

-- of a message; all is absent if it is of another kind
abbrev pub board_in : Message → Available
board_in m = board_from (of_kind BoardAvailable m)

-- its fields
unfoldable pub board_fields : Available → List Field
board_fields b = a_guid b.id ∷ a_words b.by ∷ (part_fields b.board ++ (a_whole b.route ∷ a_words b.batch ∷ []))
