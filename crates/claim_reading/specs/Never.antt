-- What a claim says: that its literals are never all false. The formula that never holds, and the line that says so.
use Rattle.std.specs.Prelude.{ℕ, ◌<◌, true, nat_le, if◌then◌else◌, List, [], ◌∷◌, ◌++◌, length, map, codes}
use Rattle.std.specs.List.{flat_map}
use Rattle.ltl_syntax.specs.Formula.{Formula, Const, Unary, Binary, nodes_in}
use Rattle.ltl_syntax.specs.declared.node.UnaryOp.TheVariants.{Not}
use Rattle.ltl_syntax.specs.declared.node.BinaryOp.TheVariants.{And}
use Rattle.ltl_syntax.specs.Print.{text_of, constant_text, binary_text}
use Rattle.cnf_base.specs.declared.literal.Literal.{Literal}
use Rattle.cnf_base.specs.Known.{AreKnown}
use Rattle.claims.specs.Between.{width}
use Rattle.claims.specs.Certificate.{Layer, Certificate, layer_at}
use Rattle.claim_reading.specs.Readable.{entry_formula}

-- the formula that holds where the literal is false
abbrev pub denied : Formula → Literal → Formula
denied f l = if l.negated then entry_formula f l.letter.0 else Unary Not (entry_formula f l.letter.0)

-- g and the others, joined by `&` from left to right
abbrev pub joined : Formula → List Formula → Formula
joined g [] = g
joined g (h ∷ more) = joined (Binary And g h) more

-- all of them, and the constant true where there is none
abbrev pub conjunction : List Formula → Formula
conjunction [] = Const true
conjunction (g ∷ more) = joined g more

-- the formula that holds where each literal of the claim is false
abbrev pub never_formula : Formula → List Literal → Formula
never_formula f claim = conjunction (map (denied f) claim)

-- its text, without the parentheses of what is joined
abbrev pub behind_and : Formula → List ℕ
behind_and g = binary_text And ++ text_of g

abbrev pub joined_text : List Formula → List ℕ
joined_text [] = constant_text true
joined_text (g ∷ more) = text_of g ++ flat_map behind_and more

-- the line of a claim; one whose formula has more nodes than a text may have is left out
abbrev pub never_line : Formula → List Literal → List ℕ
never_line f claim =
    if nat_le (nodes_in (never_formula f claim)) 16384
    then codes "never " ++ (joined_text (map (denied f) claim) ++ codes "\n")
    else codes "never (a formula of more than 16384 nodes)\n"

-- the lines of a layer, and of all layers
abbrev pub layer_lines : Formula → Layer → List ℕ
layer_lines f layer = flat_map (never_line f) layer.claims

abbrev pub never_text : Formula → Certificate → List ℕ
never_text f c = flat_map (layer_lines f) c.layers

-- the letters of all claims are those of entries
abbrev pub AreOfEntries : Formula → Certificate → Type 0
AreOfEntries f c = (j : ℕ) → j < length c.layers → AreKnown (width f) (layer_at c j).claims
