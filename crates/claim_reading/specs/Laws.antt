-- What the laws of claims as formulas say.
use Rattle.std.specs.Prelude.{◌≡◌, ℕ, ◌<◌, List, ◌∷◌, ◌++◌, length, replicate, codes}
use Rattle.std.specs.List.{flat_map}
use Rattle.ltl_syntax.specs.declared.node.Kind.{Kind}
use Rattle.ltl_syntax.specs.Formula.{Formula}
use Rattle.ltl_syntax.specs.Print.{text_of}
use Rattle.ltl_word.specs.declared.trace.Trace.{Trace}
use Rattle.ltl_word.specs.Trace.{IsTrace, IsOfKind, IsPosition}
use Rattle.ltl_word.specs.Holds.{Holds}
use Rattle.ltl_closure.specs.Norm.{Norm, pos_of}
use Rattle.claims.specs.Certificate.{Certificate, layer_at, claim_at}
use Rattle.claims.specs.Lawful.{AreLawfulLayers}
use Rattle.claim_reading.specs.Readable.{readable}
use Rattle.claim_reading.specs.Never.{conjunction, behind_and, never_formula, AreOfEntries}

-- what a normal form is read as has that normal form
abbrev pub ReadableIsNormal : Type 0
ReadableIsNormal = (n : Norm) → pos_of (readable n) ≡ n

-- the text of a claim's formula is what the line says, with a parenthesis before it all for each `&`, and one behind each part but the first
abbrev pub closed : Formula → List ℕ
closed h = behind_and h ++ codes ")"

abbrev pub LinesAreTexts : Type 0
LinesAreTexts = (g : Formula) (more : List Formula) → text_of (conjunction (g ∷ more)) ≡ replicate (length more) 40 ++ (text_of g ++ flat_map closed more)

-- the claims of lawful layers have the letters of entries
abbrev pub LawfulAreOfEntries : Type 0
LawfulAreOfEntries = (f : Formula) (kind : Kind) (c : Certificate) → AreLawfulLayers f kind c → AreOfEntries f c

-- on a trace of the kind, whether it satisfies the formula or not, no position has what a claim of lawful layers denies
abbrev pub NeversHold : Type 0
NeversHold = (f : Formula) (kind : Kind) (c : Certificate) (t : Trace) (j q i : ℕ) → AreLawfulLayers f kind c → IsTrace t → IsOfKind t kind → IsPosition t i
    → j < length c.layers → q < length (layer_at c j).claims → ¬ Holds t (never_formula f (claim_at (layer_at c j) q)) i
