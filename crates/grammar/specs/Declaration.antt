-- The declaration: "Optional declaration: `<?xml`, version 1.0 or 1.1, optional encoding UTF-8 (any letter case), optional
-- standalone yes or no, in that order, `?>`. Spaces as XML allows; single or double quotes."
use Rattle.std.specs.Prelude.{◌≡◌, List, [], ◌∷◌, Bool, true, ◌||◌, ℕ, eqb}
use Prim.Native.Char.{code}
use Rattle.grammar.specs.Bytes.{Bytes, text, joined, either, non_empty, same, fits}
use Rattle.grammar.specs.Glue.{Glue}
use Rattle.grammar.specs.Value.{quoted, is_quote}

-- "Spaces as XML allows": some glue, a word, `=` with glue around it, a quoted word
pub record Setting : Type 0 where
  pub before : Bytes
  pub mid : Bytes
  pub after : Bytes
  pub quote : ℕ
  pub word : Bytes

pub data Optional : Type 0 where
  absent : Optional
  present : Setting → Optional

pub record Declaration : Type 0 where
  pub version : Setting
  pub encoding : Optional
  pub standalone : Optional
  pub trail : Bytes

-- behind the glue before it
abbrev pub spell_setting : Bytes → Setting → Bytes
spell_setting name s = joined (name ∷ s.mid ∷ text "=" ∷ s.after ∷ quoted s.quote s.word ∷ [])

abbrev pub spell_optional : Bytes → Optional → Bytes
spell_optional name absent = []
spell_optional name (present s) = joined (s.before ∷ spell_setting name s ∷ [])

abbrev pub spell_declaration : Declaration → Bytes
spell_declaration d =
    joined
    (text "<?xml"
    ∷ d.version.before
    ∷ spell_setting (text "version") d.version
    ∷ spell_optional (text "encoding") d.encoding
    ∷ spell_optional (text "standalone") d.standalone
    ∷ d.trail
    ∷ text "?>"
    ∷ [])

-- "version 1.0 or 1.1", byte by byte
abbrev pub version_bytes : List (ℕ → Bool)
version_bytes = eqb (code "1") ∷ eqb (code ".") ∷ either (code "0") (code "1") ∷ []

abbrev pub is_version : Bytes → Bool
is_version w = fits version_bytes w

-- "encoding UTF-8 (any letter case)", byte by byte
abbrev pub encoding_bytes : List (ℕ → Bool)
encoding_bytes = either (code "U") (code "u") ∷ either (code "T") (code "t") ∷ either (code "F") (code "f") ∷ eqb (code "-") ∷ eqb (code "8") ∷ []

abbrev pub is_encoding : Bytes → Bool
is_encoding w = fits encoding_bytes w

-- "standalone yes or no"
abbrev pub is_standalone : Bytes → Bool
is_standalone w = same (text "yes") w || same (text "no") w

pub record GoodSetting (is_word : Bytes → Bool) (s : Setting) : Type 0 where
  pub before : Glue s.before
  pub apart : non_empty s.before ≡ true
  pub mid : Glue s.mid
  pub after : Glue s.after
  pub quote : is_quote s.quote ≡ true
  pub word : is_word s.word ≡ true

pub data GoodOptional (is_word : Bytes → Bool) : Optional → Type 0 where
  good_absent : GoodOptional is_word absent
  good_present : {s : Setting} → GoodSetting is_word s → GoodOptional is_word (present s)

pub record GoodDeclaration (d : Declaration) : Type 0 where
  pub version : GoodSetting is_version d.version
  pub encoding : GoodOptional is_encoding d.encoding
  pub standalone : GoodOptional is_standalone d.standalone
  pub trail : Glue d.trail
