-- Lists that read, with the strength of what is outside their parentheses.
use Rattle.std.proofs.Common.{◌≡◌, ℕ, suc, ◌+◌, ◌<◌, ◌≤◌, Bool, true, false, ◌⊎◌, inl, inr, List, [], ◌∷◌, ◌++◌, length, arith, refl, ap, ◌∙◌, cond}
use Rattle.std.proofs.Common.{length-append, append-nil}
use Rattle.ltl_syntax.specs.declared.node.UnaryOp.{UnaryOp}
use Rattle.ltl_syntax.specs.declared.node.BinaryOp.{BinaryOp}
use Rattle.ltl_syntax.specs.declared.node.BinaryOp.TheVariants as two
use Rattle.ltl_syntax.specs.Formula.{Formula, Unary, Binary}
use Rattle.ltl_parser.specs.Grammar.{Symbol, Leaf, Prefix, Infix, Open, Close, opens, closes, opening, closing, strength, groups_left, IsOuter, Counts}
use Rattle.ltl_parser.specs.Grammar.{HasNoOuter, Apart, Applied, Enclosed, Alone}
use Rattle.ltl_parser.specs.Standing.{IsEven, IsPart, left_bound, right_bound}
use Rattle.ltl_lexer.proofs.Cuts.{cut_within}

pub opens-append : (a b : List Symbol) → opens (a ++ b) ≡ opens a + opens b
opens-append [] b = omega arith
opens-append (t ∷ ts) b = omega (arith, opens-append ts b)

pub closes-append : (a b : List Symbol) → closes (a ++ b) ≡ closes a + closes b
closes-append [] b = omega arith
closes-append (t ∷ ts) b = omega (arith, closes-append ts b)

pub part_weaker : (k m : ℕ) (ts : List Symbol) (f : Formula) → m ≤ k → IsPart k ts f → IsPart m ts f
part_weaker k m ts f le p = record { reads = p.reads; even = p.even; above = λ b o a w. let h = p.above b o a w in omega arith }

pub strength_small : (o : BinaryOp) → strength o < 5
strength_small two.And = omega arith
strength_small other = omega arith

leaf_before : (f : Formula) (b : List Symbol) (t : Symbol) (a : List Symbol) → Leaf f ∷ [] ≡ b ++ t ∷ a → closes b ≤ opens b
leaf_before f [] t a e = omega arith
leaf_before f (x ∷ []) t a e = cc
leaf_before f (x ∷ y ∷ b) t a e = cc

leaf_outer : (f : Formula) (b : List Symbol) (o : BinaryOp) (a : List Symbol) → Leaf f ∷ [] ≡ b ++ Infix o ∷ a → ⊥
leaf_outer f [] o a e = cc
leaf_outer f (x ∷ []) o a e = cc
leaf_outer f (x ∷ y ∷ b) o a e = cc

pub leaf_part : (k : ℕ) (f : Formula) → IsPart k (Leaf f ∷ []) f
leaf_part k f = record {
  reads = Alone (Leaf f ∷ []) f refl;
  even = record { level = refl; before = leaf_before f };
  above = λ b o a w. absurd (leaf_outer f b o a w.whole);
}

prefix_before : (op : UnaryOp) (ts : List Symbol) → IsEven ts → (b : List Symbol) (t : Symbol) (a : List Symbol)
    → Prefix op ∷ ts ≡ b ++ t ∷ a → closes b ≤ opens b
prefix_before op ts g [] t a e = omega arith
prefix_before op ts g (x ∷ b) t a e =
    let h : x ≡ Prefix op = cc in
    let u = g.before b t a (cc) in
    let v : opening x ≡ 0 = ap opening h in
    let w : closing x ≡ 0 = ap closing h in
    omega arith

prefix_above : (k : ℕ) (op : UnaryOp) (f : Formula) (ts : List Symbol) → IsPart k ts f → (b : List Symbol) (o : BinaryOp) (a : List Symbol)
    → IsOuter (Prefix op ∷ ts) b o a → k ≤ strength o
prefix_above k op f ts g [] o a w = let e = w.whole in absurd (cc)
prefix_above k op f ts g (x ∷ b) o a w =
    let e = w.whole in
    let h : x ≡ Prefix op = cc in
    let v : opening x ≡ 0 = ap opening h in
    let z : closing x ≡ 0 = ap closing h in
    let l = w.level in
    g.above b o a (record { whole = cc; level = omega arith })

pub prefix_part : (op : UnaryOp) (f : Formula) (ts : List Symbol) → IsPart 5 ts f → (k : ℕ) → IsPart k (Prefix op ∷ ts) (Unary op f)
prefix_part op f ts g k =
    let none : HasNoOuter (Prefix op ∷ ts) = λ b o a w. let h = prefix_above 5 op f ts g b o a w in let s = strength_small o in omega arith in
    record {
      reads = Applied (Prefix op ∷ ts) ts op f none refl g.reads;
      even = record { level = let e = g.even.level in omega arith; before = prefix_before op ts g.even };
      above = λ b o a w. absurd (none b o a w);
    }

last_cut : (t c a : Symbol) (b d : List Symbol) → c ∷ [] ≡ b ++ t ∷ d → (b ≡ []) × (t ≡ c)
last_cut t c a [] d e = (refl, cc)
last_cut t c a (x ∷ []) d e = absurd (cc)
last_cut t c a (x ∷ y ∷ b) d e = absurd (cc)

enclosed_before : (ts : List Symbol) → IsEven ts → (b : List Symbol) (t : Symbol) (a : List Symbol)
    → Open ∷ (ts ++ Close ∷ []) ≡ b ++ t ∷ a → closes b ≤ opens b
enclosed_before ts g [] t a e = omega arith
enclosed_before ts g (x ∷ b) t a e =
    let h : x ≡ Open = cc in
    let v : opening x ≡ 1 = ap opening h in
    let z : closing x ≡ 0 = ap closing h in
    let u : ts ++ Close ∷ [] ≡ b ++ t ∷ a = cc in
    elim (cut_within ts (Close ∷ []) b t a u) [
      | inl w ↦ let y = g.before b t w.0 w.1 in omega arith
      | inr w ↦
          let y = last_cut t Close t w.0 a w.2 in
          let m = opens-append ts w.0 in
          let n = closes-append ts w.0 in
          let p : opens b ≡ opens (ts ++ w.0) = ap opens w.1 in
          let q : closes b ≡ closes (ts ++ w.0) = ap closes w.1 in
          let r : opens w.0 ≡ 0 = ap opens y.0 in
          let s : closes w.0 ≡ 0 = ap closes y.0 in
          let l = g.level in
          omega arith
    ]

enclosed_none : (ts : List Symbol) → IsEven ts → HasNoOuter (Open ∷ (ts ++ Close ∷ []))
enclosed_none ts g [] o a w = let e = w.whole in cc
enclosed_none ts g (x ∷ b) o a w =
    let e = w.whole in
    let l = w.level in
    let h : x ≡ Open = cc in
    let v : opening x ≡ 1 = ap opening h in
    let z : closing x ≡ 0 = ap closing h in
    let u : ts ++ Close ∷ [] ≡ b ++ Infix o ∷ a = cc in
    elim (cut_within ts (Close ∷ []) b (Infix o) a u) [
      | inl c ↦ let y = g.before b (Infix o) c.0 c.1 in absurd (omega arith)
      | inr c ↦ let y = (last_cut (Infix o) Close Close c.0 a c.2).1 in absurd (cc)
    ]

pub enclosed_part : (ts : List Symbol) (f : Formula) (m : ℕ) → IsPart m ts f → (k : ℕ) → IsPart k (Open ∷ (ts ++ Close ∷ [])) f
enclosed_part ts f m g k = record {
  reads = Enclosed (Open ∷ (ts ++ Close ∷ [])) ts f (enclosed_none ts g.even) refl g.reads;
  even = record {
    level = let e = g.even.level in let m = opens-append ts (Close ∷ []) in let n = closes-append ts (Close ∷ []) in omega arith;
    before = enclosed_before ts g.even;
  };
  above = λ b o a w. absurd (enclosed_none ts g.even b o a w);
}

-- where an outer operator of two joined lists stands
where_outer : (l r b a : List Symbol) (op o : BinaryOp) → IsEven l → IsOuter (l ++ Infix op ∷ r) b o a →
    ((c : List Symbol) × IsOuter l b o c × (l ≡ b ++ Infix o ∷ c)) ⊎ (((o ≡ op) × (b ≡ l)) ⊎ ((c : List Symbol) × IsOuter r c o a × (b ≡ l ++ Infix op ∷ c)))
where_outer l r b a op o g w = elim (cut_within l (Infix op ∷ r) b (Infix o) a w.whole) [
  | inl c ↦ inl (c.0, record { whole = c.1; level = w.level }, c.1)
  | inr c ↦ inr (go c.0 c.1 c.2)
]
  where
    go : (c : List Symbol)
        → b ≡ l ++ c → Infix op ∷ r ≡ c ++ Infix o ∷ a → ((o ≡ op) × (b ≡ l)) ⊎ ((c : List Symbol) × IsOuter r c o a × (b ≡ l ++ Infix op ∷ c))
    go [] e h = inl ((cc), e ∙ append-nil l)
    go (x ∷ c) e h =
        let i : x ≡ Infix op = cc in
        let v : opening x ≡ 0 = ap opening i in
        let z : closing x ≡ 0 = ap closing i in
        let p = ap opens e ∙ opens-append l (x ∷ c) in
        let q = ap closes e ∙ closes-append l (x ∷ c) in
        let m = g.level in
        let n = w.level in
        inr (c, record { whole = cc; level = omega arith }, e ∙ ap (λ s. l ++ s ∷ c) i)

module _ (l r : List Symbol) (f g : Formula) (op : BinaryOp) (p : IsPart (left_bound op) l f) (q : IsPart (right_bound op) r g) where
  bounds : (strength op ≤ left_bound op) × (strength op ≤ right_bound op)
  bounds = elim (groups_left (strength op)) as
      (λ b. (strength op ≤ cond b (strength op) (suc (strength op))) × (strength op ≤ cond b (suc (strength op)) (strength op))) [
        | true ↦ (omega arith, omega arith)
        | false ↦ (omega arith, omega arith)
      ]

  join_weakest : (b : List Symbol) (o : BinaryOp) (a : List Symbol) → IsOuter (l ++ Infix op ∷ r) b o a → strength op ≤ strength o
  join_weakest b o a w = elim (where_outer l r b a op o p.even w) [
    | inl c ↦ let h = p.above b o c.0 c.1 in let k = bounds in omega arith
    | inr (inl c) ↦ let h : strength o ≡ strength op = ap strength c.0 in omega arith
    | inr (inr c) ↦ let h = q.above c.0 o a c.1 in let k = bounds in omega arith
  ]

  join_place : (side : Bool) → groups_left (strength op) ≡ side → (b : List Symbol) (o : BinaryOp) (a : List Symbol) → IsOuter (l ++ Infix op ∷ r) b o a
      → strength o ≡ strength op → Counts side (length l) (length b)
  join_place true s b o a w e = elim (where_outer l r b a op o p.even w) [
    | inl c ↦ let h = ap length c.2 ∙ length-append b (Infix o ∷ c.0) in omega arith
    | inr (inl c) ↦ let h = ap length c.1 in omega arith
    | inr (inr c) ↦
        let h = q.above c.0 o a c.1 in
        let k : right_bound op ≡ suc (strength op) = ap (λ t. cond t (suc (strength op)) (strength op)) s in
        absurd (omega arith)
  ]
  join_place false s b o a w e = elim (where_outer l r b a op o p.even w) [
    | inl c ↦
        let h = p.above b o c.0 c.1 in
        let k : left_bound op ≡ suc (strength op) = ap (λ t. cond t (strength op) (suc (strength op))) s in
        absurd (omega arith)
    | inr (inl c) ↦ let h = ap length c.1 in omega arith
    | inr (inr c) ↦ let h = ap length c.2 ∙ length-append l (Infix op ∷ c.0) in omega arith
  ]

  join_before : (b : List Symbol) (t : Symbol) (a : List Symbol) → l ++ Infix op ∷ r ≡ b ++ t ∷ a → closes b ≤ opens b
  join_before b t a e = elim (cut_within l (Infix op ∷ r) b t a e) [
    | inl c ↦ p.even.before b t c.0 c.1
    | inr c ↦ go c.0 c.1 c.2
  ]
    where
      go : (c : List Symbol) → b ≡ l ++ c → Infix op ∷ r ≡ c ++ t ∷ a → closes b ≤ opens b
      go [] d h = let m = p.even.level in let x = ap opens (d ∙ append-nil l) in let y = ap closes (d ∙ append-nil l) in omega arith
      go (x ∷ c) d h =
          let i : x ≡ Infix op = cc in
          let v : opening x ≡ 0 = ap opening i in
          let z : closing x ≡ 0 = ap closing i in
          let j = ap opens d ∙ opens-append l (x ∷ c) in
          let k = ap closes d ∙ closes-append l (x ∷ c) in
          let m = p.even.level in
          let n = q.even.before c t a (cc) in
          omega arith

  pub join_part : IsPart (strength op) (l ++ Infix op ∷ r) (Binary op f g)
  join_part = record {
    reads = Apart (l ++ Infix op ∷ r) l r op f g (record {
      outer = record {
        whole = refl;
        level = p.even.level;
      };
      weakest = join_weakest;
      place = join_place (groups_left (strength op)) refl;
    }) p.reads q.reads;
    even = record {
      level = let x = opens-append l (Infix op ∷ r) in let y = closes-append l (Infix op ∷ r) in let m = p.even.level in let n = q.even.level in omega arith;
      before = join_before;
    };
    above = join_weakest;
  }
