-- The texts that are this program's own: the usage, the help, and the lines about names and limits.
use Rattle.std.specs.Prelude.{ℕ, ◌+◌, List, [], ◌++◌, codes}
use Rattle.std.specs.Fmt.{decimal}
use Rattle.report.specs.Texts.{line}
use Rattle.requirement_document.specs.Values.{DocumentValue}
use Rattle.requirement_report.specs.Flat.{flat}
use Rattle.requirement_report.specs.Subjects.{behaviour_name}
use Rattle.requirements_top.specs.Refusing.{in_parentheses}

-- a line for each of the four calls
abbrev pub usage_text : List ℕ
usage_text = line (codes "usage: black_requirements [--json | --html] [--only NAME] [--steps N] [--workers N] [--progress]")
    ++ (line (codes "usage: black_requirements --cert NAME [--steps N] [--workers N] [--progress]")
    ++ (line (codes "usage: black_requirements --letters") ++ line (codes "usage: black_requirements --help")))

-- what the program does, its options, what a requirement looks like, and the statuses
abbrev pub about_text : List ℕ
about_text =
    line [] ++ (line (codes "Reads a document of named requirements from standard input and says whether they")
    ++ (line (codes "can be met together, which of them conflict, what may happen, what follows, and")
    ++ line (codes "what is never triggered or says nothing new.")))

abbrev pub options_text : List ℕ
options_text =
    line [] ++ (line (codes "  --json         the report as one line of JSON") ++ (line (codes "  --html         the report as a page")
    ++ (line (codes "  --letters      the letters of the document, with the items that have them")
    ++ (line (codes "  --only NAME    the questions of one item or behaviour")
    ++ (line (codes "  --cert NAME    a certificate of what is impossible, for black_refute --check")
    ++ (line (codes "  --steps N      how long a question is tried: 10000000 where it is not given")
    ++ (line (codes "  --workers N    how many threads answer questions: 1 where it is not given")
    ++ line (codes "  --progress     a line on standard error for each question"))))))))

abbrev pub example_text : List ℕ
example_text =
    line [] ++ (line (codes "A requirement of a document:") ++ (line [] ++ (line (codes "  [[require]]") ++ (line (codes "  name = \"pump out\"")
    ++ (line (codes "  text = \"Where the water is high, the pump runs within three steps.\"") ++ line (codes "  formula = \"G (high -> F[0,3] pump)\""))))))

abbrev pub others_text : List ℕ
others_text =
    line [] ++ (line (codes "Other sections: [[define]], [[assume]], [[allow]], [[ensure]], [[behaviour]].")
    ++ (line (codes "Status: 0 as wished, 1 not as wished, 30 undecided; 2 words that are not taken,")
    ++ line (codes "3 a fault of the document, 4 a limit, 5 to 8 reading, writing, memory, words.")))

abbrev pub help_text : List ℕ
help_text = usage_text ++ (about_text ++ (options_text ++ (example_text ++ others_text)))

-- nothing has the name that is asked about
abbrev pub no_item_text : List ℕ → List ℕ
no_item_text name = line (codes "no item " ++ flat name)

-- no answer about what has the name says that there is no trace
abbrev pub no_certificate_text : List ℕ → List ℕ
no_certificate_text name = line (codes "no certificate: nothing about " ++ (flat name ++ codes " is impossible"))

-- the certificate is too long, or its formula is too long or too large
abbrev pub beyond_text : List ℕ
beyond_text = line (codes "certificate beyond the limits of texts")

-- the behaviour, counted from 0, has too many states for a formula
abbrev pub cells_text : DocumentValue → ℕ → List ℕ
cells_text d n = line (codes "limit cells 67108864 in behaviour " ++ (decimal (n + 1) ++ in_parentheses (behaviour_name d n)))
