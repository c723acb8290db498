-- Ids as a record holds them: a BoardId is 36 bytes, a ForecastId up to 80 bytes "with a length, zeros behind".
use Rattle.std.specs.Prelude.{List, [], ◌∷◌, ◌++◌, Bool, true, false, ℕ, eqb, leb, take, replicate}
use Rattle.lane.specs.Chart.{pick, both}
use Rattle.lane.specs.declared.ids.Forecast.{Forecast}

-- "Ids not in use are ignored, and zero bytes": 36 of them.
abbrev pub no_id : List ℕ
no_id = replicate 36 0

-- Two ids are the same, byte by byte.
unfoldable pub same_id : List ℕ → List ℕ → Bool
same_id [] [] = true
same_id [] (y ∷ ys) = false
same_id (x ∷ xs) [] = false
same_id (x ∷ xs) (y ∷ ys) = both (eqb x y) (same_id xs ys)

-- "ForecastId .., text 80": 80 zeros where there is none, "zeros behind" where there is one.
abbrev pub zeros : List ℕ
zeros = replicate 80 0

abbrev pub no_forecast : Forecast
no_forecast = record { length = 0; bytes = zeros }

-- The bytes of an id of a length: its own ones, "zeros behind", 80 in all.
abbrev pub padded : ℕ → List ℕ → List ℕ
padded n bytes = take 80 (take n bytes ++ zeros)

-- What a forecast reads as; a length above 80 is never written, and reads as none.
unfoldable pub righted : Forecast → Forecast
righted f = pick (leb f.length 80) (record { length = f.length; bytes = padded f.length f.bytes }) no_forecast

-- The same ForecastId: as long, and the same bytes.
abbrev pub same_forecast : Forecast → Forecast → Bool
same_forecast f g = both (eqb f.length g.length) (same_id f.bytes g.bytes)

-- The bytes of the ForecastId itself.
abbrev pub id_of : Forecast → List ℕ
id_of f = take (righted f).length (righted f).bytes
