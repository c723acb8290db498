-- Where text and comments may stand, and the byte at which each thing that is none dies: a table whose test computes, as in `Bench`.
use Rattle.std.specs.Prelude.{List, [], ◌∷◌, ◌++◌}
use Rattle.grammar.specs.Answer.{ends_at, more_from, malformed_at}
use Rattle.model.specs.Bench.{Case, case}

-- text and comments stand in any element below the root, comments in the root and behind a declaration
abbrev taken : List Case
taken =
    case "<Hermes><X>a&amp;b<Y/>]]</X></Hermes>" (ends_at 0 37)
    ∷ case "<Hermes><X><!--</X></Hermes>--></X></Hermes>" (ends_at 0 44)
    ∷ case "<Hermes><!--<Hermes><CheckAlive/></Hermes>--><X/></Hermes>" (ends_at 0 58)
    ∷ case "<?xml version='1.0'?> <!--&<-->\n<Hermes><X/><!----></Hermes>" (ends_at 0 60)
    ∷ []

-- a comment: `<!-` then another byte; `<!--->` is not closed; `--` with another byte than `>` behind it, also a third `-`
abbrev unclosed : List Case
unclosed =
    case "<Hermes><!-x" (malformed_at 0 11)
    ∷ case "<Hermes><!--->" (more_from 0)
    ∷ case "<Hermes><!----x" (malformed_at 0 14)
    ∷ case "<Hermes><!-- --->" (malformed_at 0 15)
    ∷ []

-- `]]>`, also behind further `]`; not with a reference or a comment between
abbrev cdata_ends : List Case
cdata_ends =
    case "<Hermes><X>]]>" (malformed_at 0 13)
    ∷ case "<Hermes><X>]]]>" (malformed_at 0 14)
    ∷ case "<Hermes><X>]]&gt;>" (more_from 0)
    ∷ case "<Hermes><X>]]<!---->>" (more_from 0)
    ∷ []

-- no text in the root, before its child or behind it, nor behind a declaration; no reference there
abbrev root_texts : List Case
root_texts =
    case "<Hermes>x" (malformed_at 0 8)
    ∷ case "<Hermes> &" (malformed_at 0 9)
    ∷ case "<Hermes><X/>x" (malformed_at 0 12)
    ∷ case "<?xml version='1.0'?>x" (malformed_at 0 21)
    ∷ []

-- no comment before a declaration, nor before a root that has none; no instruction; CDATA and DTD die behind `<!`
abbrev misplaced : List Case
misplaced =
    case "<!" (malformed_at 0 1)
    ∷ case "<Hermes><?" (malformed_at 0 9)
    ∷ case "<Hermes><X><?" (malformed_at 0 12)
    ∷ case "<Hermes><![" (malformed_at 0 10)
    ∷ case "<Hermes><X><!D" (malformed_at 0 13)
    ∷ case "<?xml version='1.0'?><!D" (malformed_at 0 23)
    ∷ []

-- a reference in text like one in a value; text in the sixth element, and no element in it
abbrev texts : List Case
texts =
    case "<Hermes><X>&#x110000" (malformed_at 0 19)
    ∷ case "<Hermes><X>&x" (malformed_at 0 12)
    ∷ case "<Hermes><A><B><C><D><E>t&lt;" (more_from 0)
    ∷ case "<Hermes><A><B><C><D><E>t<F" (malformed_at 0 25)
    ∷ []

abbrev pub remarks : List Case
remarks = taken ++ (unclosed ++ (cdata_ends ++ (root_texts ++ (misplaced ++ texts))))
