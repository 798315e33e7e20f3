-- The style of the page: nothing in it asks for another file.
use Rattle.std.specs.Prelude.{ℕ, List, ◌++◌, codes}

-- the colours, for light screens and for dark ones
abbrev pub colours : List ℕ
colours =
    codes "\n:root{color-scheme:light dark;--ink:#1f2328;--sheet:#ffffff;--line:#8c959f;--soft:#f6f8fa;"
    ++ (codes "--good:#1a7f37;--bad:#b3261e;--remark:#8a5a00;--open:#57606a;--link:#0550ae}\n@media (prefers-color-scheme:dark){\n"
    ++ (codes ":root{--ink:#e6edf3;--sheet:#0d1117;--line:#6e7681;--soft:#161b22;--good:#3fb950;--bad:#ff7b72;"
    ++ codes "--remark:#d29922;--open:#9198a1;--link:#79c0ff}\n}\n"))

-- the body, its headings and its text
abbrev pub elements : List ℕ
elements =
    codes "body{max-width:60rem;margin:0 auto;padding:1rem;background:var(--sheet);color:var(--ink);"
    ++ (codes "font:1rem/1.5 system-ui,sans-serif;overflow-wrap:anywhere}\nh1{font-size:1.5rem}\nh2{font-size:1.25rem;margin-top:2rem}\n"
    ++ (codes "h3{font-size:1rem;margin:0}\np,ul{margin:.4rem 0}\na{color:var(--link)}\n"
    ++ codes "code{font-family:'DejaVu Sans Mono',Consolas,monospace;font-size:.9rem}\n"))

-- articles, and words in the colour of their sort
abbrev pub articles : List ℕ
articles =
    codes "article{margin:1rem 0;padding:.5rem .8rem;border:1px solid var(--line);"
    ++ (codes "border-left:.4rem solid var(--tone,var(--line));background:var(--soft)}\n"
    ++ (codes ".word{display:inline-block;padding:0 .4rem;border:2px solid currentColor;border-radius:.3rem;"
    ++ (codes "color:var(--tone);font-weight:bold}\n.good{--tone:var(--good)}\n.bad{--tone:var(--bad)}\n.remark{--tone:var(--remark)}\n"
    ++ codes ".open{--tone:var(--open)}\n.word.remark{border-style:dashed}\n.word.open{border-style:dotted}\n")))

-- the table of counts, and pictures
abbrev pub parts : List ℕ
parts =
    codes ".counts{border-collapse:collapse}\n.counts td{padding:.1rem 1rem .1rem 0}\n.picture{overflow-x:auto}\n"

-- what differs on paper
abbrev pub printing : List ℕ
printing =
    codes "@media print{\nbody{max-width:none;padding:0}\narticle{break-inside:avoid;background:none}\n.picture{overflow:visible}\n"
    ++ codes ".picture svg{max-width:100%;height:auto}\n}\n"

abbrev pub style : List ℕ
style = colours ++ (elements ++ (articles ++ (parts ++ printing)))
