-- What lawful layers claim of a trace holds at each of its positions, so what a claim denies holds at none.
use Rattle.std.proofs.Common.{◌≡◌, ℕ, suc, ◌-◌, ◌<◌, ◌↔◌, Bool, true, false, not, ◌||◌, IsTrue, inl, refl, sym, ap, subst, ◌∙◌, arith, List, [], ◌∷◌, ◌++◌}
use Rattle.std.proofs.Common.{length, get_or, map, filter, Contains, Decides, if◌then◌else◌}
use Rattle.std.proofs.lemmas.Bool.{false_from_ne_true}
use Rattle.std.proofs.lemmas.List.Elements.{Contains-append_left, Contains-append_right, All-get_or}
use Rattle.std.specs.List.{list_any}
use Rattle.ltl_syntax.specs.declared.node.Kind.TheVariants as Kinds
use Rattle.ltl_syntax.specs.Formula.{Formula, Const, Unary, Binary}
use Rattle.ltl_syntax.specs.declared.node.UnaryOp.TheVariants.{Not}
use Rattle.ltl_syntax.specs.declared.node.BinaryOp.TheVariants.{And, Or}
use Rattle.ltl_word.specs.declared.trace.Trace.{Trace}
use Rattle.ltl_word.specs.declared.trace.Trace.TheVariants.{Infinite, Finite}
use Rattle.ltl_word.specs.Trace.{IsTrace, IsPosition, Names}
use Rattle.ltl_word.specs.Holds.{Holds}
use Rattle.cnf_base.specs.declared.literal.Literal.{Literal}
use Rattle.cnf_base.specs.Meaning.{literal_value, clause_value}
use Rattle.ltl_closure.specs.Norm.{Norm, NConst, NNext, NOr, NUntil, formula_of, pos_of}
use Rattle.ltl_closure.specs.Closure.{closure, walk, is_next, is_yesterday, is_eventuality}
use Rattle.ltl_closure.specs.Run.{States, is_pending}
use Rattle.ltl_closure.proofs.Lists.{Contains-filter, Contains-from_filter}
use Rattle.ltl_closure.proofs.Entries.{Contains-closure, Contains-walk}
use Rattle.ltl_run.proofs.Normal.{norm_holds}
use Rattle.ltl_run.proofs.Tableau.{states_of, val_decides, states_run}
use Rattle.claims.specs.Certificate.{layer_at, claim_at}
use Rattle.claims.specs.Sequences.{AreLinked, IsMet, AreEndless, AreEnding, value_at}
use Rattle.claims.proofs.Refuting.{endless_keep, ending_keep}
use Rattle.claim_reading.specs.Readable.{readable, entry_formula}
use Rattle.claim_reading.specs.Never.{denied, joined, never_formula}
use Rattle.claim_reading.specs.Laws.{NeversHold}
use Rattle.claim_reading.proofs.Readable.{readable_normal}

clash : (a : Bool) → IsTrue a → a ≡ false → ⊥
clash a h k = cc

-- a formula that each trace satisfies, and whose closure has that of f
abbrev padded : Formula → Formula
padded f = Binary Or (Const true) f

padded_has : (f : Formula) (e : Norm) → Contains (closure f) e → Contains (closure (padded f)) e
padded_has f e c =
    let rest = NOr (NConst true) (pos_of f) ∷ [] in
    Contains-closure (padded f) e (Contains-append_right (NConst true ∷ []) (walk (pos_of f) ++ rest) e
    (Contains-append_left (walk (pos_of f)) rest e (Contains-walk f e c)))

padded_filter : (p : Norm → Bool) (f : Formula) (e : Norm) → Contains (filter p (closure f)) e → Contains (filter p (closure (padded f))) e
padded_filter p f e c =
    let w = Contains-from_filter p (closure f) e c in
    Contains-filter p (closure (padded f)) e (padded_has f e w.0) w.1

module _ (f : Formula) (t : Trace) (good : IsTrace t) where
  -- the states of the trace
  abbrev u : States
  u = states_of t good

  linked : (i : ℕ) → IsPosition t (suc i) → AreLinked f (u i) (u (suc i))
  linked i at =
      let run = states_run t good (padded f) (suc i) at (inl refl) in
      record {
        next = λ e c. run.next i (omega arith) e (padded_filter is_next f e c);
        before = λ e c. run.before i (omega arith) e (padded_filter is_yesterday f e c);
      }

  -- a normal form is read as one that holds where it does
  readable_holds : (e : Norm) (i : ℕ) → IsPosition t i → Holds t (readable e) i ↔ Holds t (formula_of e) i
  readable_holds e i at =
      let r = (norm_holds t good (readable e) true) in
      let is = readable_normal e in
      (λ h. subst (λ n. Holds t (formula_of n) i) is (r.back i at h), λ h. r.to i at (subst (λ n. Holds t (formula_of n) i) (sym is) h))

  module _ (i : ℕ) (at : IsPosition t i) where
    abbrev v : ℕ → Bool
    v = value_at f (u i)

    entry_decides : (n : ℕ) → Decides (v n) (Holds t (entry_formula f n) i)
    entry_decides n =
        let e = get_or (closure f) (n - 1) (NConst false) in
        let d = val_decides t good e i at in
        let r = readable_holds e i at in
        (λ h. r.1 (d.0 h), λ h. d.1 (r.0 h))

    literal_false : (l : Literal) → Holds t (denied f l) i → literal_value v l ≡ false
    literal_false l = go l.negated (v l.letter.0) (entry_decides l.letter.0)
      where
        go : (b x : Bool) → Decides x (Holds t (entry_formula f l.letter.0) i)
            → Holds t (if b then entry_formula f l.letter.0 else Unary Not (entry_formula f l.letter.0)) i → (if b then not x else x) ≡ false
        go true x d h = ap not (d.1 h)
        go false x d h = false_from_ne_true x (λ e. h (d.0 e))

    -- where all that is joined holds, the first does, and each literal is false
    joined_false : (claim : List Literal) (g : Formula) → Holds t (joined g (map (denied f) claim)) i → (clause_value v claim ≡ false) × Holds t g i
    joined_false [] g h = (refl, h)
    joined_false (l ∷ more) g h =
        let w = joined_false more (Binary And g (denied f l)) h in
        (ap (λ b. b || list_any (literal_value v) more) (literal_false l w.1.1) ∙ w.0, w.1.0)

    claim_false : (claim : List Literal) → Holds t (never_formula f claim) i → clause_value v claim ≡ false
    claim_false [] h = refl
    claim_false (l ∷ more) h =
        let w = joined_false more (denied f l) h in
        ap (λ b. b || list_any (literal_value v) more) (literal_false l w.1) ∙ w.0

module _ (f : Formula) (stem loop_part : List Names) (some : 0 < length loop_part) where
  abbrev lasso : Trace
  lasso = Infinite stem loop_part

  abbrev r : States
  r = states_of lasso some

  met : (e : Norm) → IsTrue (is_eventuality e) → (i : ℕ) → (j : ℕ) × (i < j) × IsMet (r j) e
  met (NUntil a b) h i = go (is_pending (r (suc i)) (NUntil a b)) refl
    where
      go : (p : Bool) → is_pending (r (suc i)) (NUntil a b) ≡ p → (j : ℕ) × (i < j) × IsMet (r j) (NUntil a b)
      go false is = (suc i, omega arith, λ x. absurd (clash _ x is))
      go true is =
          let x = (val_decides lasso some (NNext (NUntil a b)) (suc i) tt).0 is in
          let w = x.2 in
          (w.0, omega (arith, x.1.0, w.1), λ x. (val_decides lasso some b w.0 tt).1 w.3)
  met _ h i = cc

  endless : AreEndless f r
  endless = record {
    linked = λ i. linked f lasso some i tt;
    met = λ e c. met e (Contains-from_filter is_eventuality (closure f) e c).1;
  }

ending : (f : Formula) (states : List Names) (some : 0 < length states) → AreEnding f (length states - 1) (states_of (Finite states) some)
ending f states some = record {
  linked = λ i lt. linked f (Finite states) some i (omega (arith, lt));
  last = λ a c. false_from_ne_true _ (λ p.
      let w = (val_decides (Finite states) some (NNext a) (length states - 1) (omega (arith, some))).0 p in
      absurd (omega (arith, w.1, some)));
}

abbrev IsMade : (ℕ → Bool) → List Literal → Type 0
IsMade v claim = clause_value v claim ≡ true

not_both : (a : Bool) → a ≡ true → a ≡ false → ⊥
not_both a h k = cc

pub nevers_hold : NeversHold
nevers_hold f Kinds.Infinite c (Infinite stem loop_part) j q i layers some kind at lt within h =
    let true' = All-get_or (IsMade (value_at f (states_of (Infinite stem loop_part) some i))) (layer_at c j).claims q [] within
    (endless_keep f c (states_of (Infinite stem loop_part) some) j i layers (endless f stem loop_part some) lt) in
    not_both _ true' (claim_false f (Infinite stem loop_part) some i at (claim_at (layer_at c j) q) h)
nevers_hold f Kinds.Finite c (Finite states) j q i layers some kind at lt within h =
    let k = length states - 1 in
    let true' = All-get_or (IsMade (value_at f (states_of (Finite states) some i))) (layer_at c j).claims q [] within
    (ending_keep f c (states_of (Finite states) some) k j i layers (ending f states some) lt (omega (arith, at))) in
    not_both _ true' (claim_false f (Finite states) some i at (claim_at (layer_at c j) q) h)
nevers_hold f Kinds.Infinite c (Finite states) j q i layers some kind at lt within h = absurd kind
nevers_hold f Kinds.Finite c (Infinite stem loop_part) j q i layers some kind at lt within h = absurd kind
