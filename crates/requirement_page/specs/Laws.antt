-- What the laws of pages say.
use Rattle.std.specs.Prelude.{◌≡◌, ℕ, List, [], ◌∷◌, ◌++◌, codes, Contains}
use Rattle.trace_view.specs.Diagram.{escaped}
use Rattle.requirement_document.specs.Values.{DocumentValue}
use Rattle.requirement_answers.specs.declared.findings.Report.{Report}
use Rattle.requirement_answers.specs.declared.findings.Scope.{Scope}
use Rattle.requirement_page.specs.Page.{declared, IsPage}

-- all marks that a page has, from behind `<` on: none of them is a script
abbrev pub marks_of_head : List (List ℕ)
marks_of_head =
    codes "!DOCTYPE html>" ∷ codes "html lang=\"en\">" ∷ codes "head>" ∷ codes "meta charset=\"utf-8\">"
    ∷ codes "meta name=\"viewport\" content=\"width=device-width, initial-scale=1\">"
    ∷ codes "meta http-equiv=\"Content-Security-Policy\" content=\"default-src 'none'; style-src 'unsafe-inline'\">"
    ∷ codes "title>" ∷ codes "/title>" ∷ codes "style>" ∷ codes "/style>" ∷ codes "/head>" ∷ codes "body>" ∷ codes "/body>" ∷ codes "/html>" ∷ []

abbrev pub marks_of_body : List (List ℕ)
marks_of_body =
    codes "h1>" ∷ codes "/h1>" ∷ codes "h2>" ∷ codes "/h2>" ∷ codes "h3>" ∷ codes "/h3>" ∷ codes "p>" ∷ codes "/p>" ∷ codes "ul>" ∷ codes "/ul>" ∷ codes "li>"
    ∷ codes "/li>" ∷ codes "table class=\"counts\">" ∷ codes "/table>" ∷ codes "tr>" ∷ codes "/tr>" ∷ codes "td>" ∷ codes "/td>" ∷ codes "article class=\""
    ∷ codes "article id=\"item-" ∷ codes "/article>" ∷ codes "span class=\"word " ∷ codes "/span>" ∷ codes "strong>" ∷ codes "/strong>" ∷ codes "code>"
    ∷ codes "/code>" ∷ codes "bdi>" ∷ codes "/bdi>" ∷ codes "a href=\"#item-" ∷ codes "a href=\"#answer-" ∷ codes "/a>" ∷ codes "div class=\"picture\">"
    ∷ codes "/div>" ∷ []

abbrev pub marks_of_pictures : List (List ℕ)
marks_of_pictures =
    codes "svg xmlns='http://www.w3.org/2000/svg' version='1.1' width='" ∷ codes "/svg>" ∷ codes "title>" ∷ codes "style type='text/css'>"
    ∷ codes "rect class='"
    ∷ codes "path class='" ∷ codes "text class='" ∷ codes "/text>" ∷ []

abbrev pub marks : List (List ℕ)
marks = marks_of_head ++ (marks_of_body ++ marks_of_pictures)

-- wherever `<` stands in a text, one of these begins
abbrev pub HasOnlyMarks : List ℕ → Type 0
HasOnlyMarks text = (before after : List ℕ) → text ≡ before ++ 60 ∷ after → (mark : List ℕ) × Contains marks mark × ((rest : List ℕ) × (after ≡ mark ++ rest))

-- what somebody wrote has neither `<` nor `>`, a page has no marks but its own, and it begins with the policy that no script is to run
pub record NothingRuns : Type 0 where
  pub opens : (text : List ℕ) → ¬ Contains (escaped text) 60
  pub closes : (text : List ℕ) → ¬ Contains (escaped text) 62
  pub marked : (d : DocumentValue) (r : Report) (scope : Scope) (steps : ℕ) (text : List ℕ) → IsPage d r scope steps text → HasOnlyMarks text
  pub guarded : (d : DocumentValue) (r : Report) (scope : Scope) (steps : ℕ) (text : List ℕ) → IsPage d r scope steps text → (rest : List ℕ) × (text
      ≡ declared ++ rest)
