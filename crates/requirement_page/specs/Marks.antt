-- Pieces of the page: what somebody wrote, paragraphs, links to items, and words in the colour of their sort.
use Rattle.std.specs.Prelude.{ℕ, ◌+◌, List, [], ◌∷◌, ◌++◌, length, codes}
use Rattle.trace_view.specs.Diagram.{escaped}
use Rattle.requirement_document.specs.Values.{DocumentValue}
use Rattle.requirement_report.specs.Flat.{flat}
use Rattle.requirement_report.specs.Lines.{worded}
use Rattle.requirement_report.specs.Subjects.{name_of, behaviour_name}

-- a line with an entity for each byte that HTML would read as a mark, and with a direction of its own
abbrev pub turned : List ℕ → List ℕ
turned line = codes "<bdi>" ++ (escaped line ++ codes "</bdi>")

-- what somebody wrote, on one line
abbrev pub said : List ℕ → List ℕ
said text = turned (flat text)

-- a formula as it is printed, which is on one line
abbrev pub code : List ℕ → List ℕ
code line = codes "<code>" ++ (turned line ++ codes "</code>")

abbrev pub paragraph : List ℕ → List ℕ
paragraph content = codes "<p>" ++ (content ++ codes "</p>\n")

-- what somebody wrote, where there is anything
abbrev pub paragraph_if : List ℕ → List ℕ
paragraph_if [] = []
paragraph_if (b ∷ bs) = paragraph (turned (b ∷ bs))

-- a link to an item by its number on the page, which counts from 1
abbrev pub link : ℕ → List ℕ → List ℕ
link number name = worded (codes "<a href=\"#item-") number ++ (codes "\">" ++ (said name ++ codes "</a>"))

abbrev pub item_link : DocumentValue → ℕ → List ℕ
item_link d n = link (n + 1) (name_of d n)

-- behaviours are counted behind the items
abbrev pub behaviour_link : DocumentValue → ℕ → List ℕ
behaviour_link d n = link (length d.items + n + 1) (behaviour_name d n)

-- a word with the colour of its sort
abbrev pub badge : List ℕ → List ℕ → List ℕ
badge sort word = codes "<span class=\"word " ++ (sort ++ (codes "\">" ++ (word ++ codes "</span>")))

-- how the article of an answer begins: its sort, its number, its word and what it is about
abbrev pub opening : List ℕ → ℕ → List ℕ
opening sort number = codes "<article class=\"" ++ (sort ++ (worded (codes "\" id=\"answer-") number ++ codes "\">\n"))

abbrev pub heading : List ℕ → List ℕ → List ℕ → List ℕ
heading sort word subject = codes "<h3>" ++ (badge sort word ++ (codes " " ++ (subject ++ codes "</h3>\n")))

abbrev pub begun : List ℕ → ℕ → List ℕ → List ℕ → List ℕ
begun sort number word subject = opening sort number ++ heading sort word subject

abbrev pub ended : List ℕ
ended = codes "</article>\n"
