-- Numbers of raw values: what number's definitions say of the bytes that the value reads as.
use Rattle.std.specs.Prelude.{◌≡◌, List, Bool, false, Option, None}
use Rattle.grammar.specs.Bytes.{Bytes}
use Rattle.grammar.specs.Value.{Item, read_value}
use Rattle.number.specs.Whole.{int_of, capped, paper}
use Rattle.number.specs.Positive.{number_of, decimals_of, number_read}
use Rattle.number.specs.Guid.{guid_of}
use Rattle.number.specs.Version.{version_of}
use Rattle.number.specs.declared.Int.{Int}
use Rattle.number.specs.declared.Positive.{Positive}
use Rattle.value.specs.Loose.{Loose}

-- w is items, and r is what is said of the bytes they read as; or w is no items, and r is what is said of those
pub data Reads {A : Type 0} (says : Bytes → A → Type 0) (none : A) (w : Bytes) (r : A) : Type 0 where
  read : (l : List Item) → Loose w l → says (read_value l) r → Reads says none w r
  unread : ((l : List Item) → Loose w l → ⊥) → r ≡ none → Reads says none w r

abbrev pub IntReads : Bytes → Option Int → Type 0
IntReads w r = Reads (λ v q. paper q ≡ capped (int_of v)) None w r

abbrev pub NumberReads : Bytes → Option Positive → Type 0
NumberReads w r = Reads (λ v q. q ≡ number_read (number_of v) (decimals_of v)) None w r

abbrev pub GuidReads : Bytes → Bool → Type 0
GuidReads w r = Reads (λ v q. q ≡ guid_of v) false w r

abbrev pub VersionReads : Bytes → Bool → Type 0
VersionReads w r = Reads (λ v q. q ≡ version_of v) false w r
