-- What the pass has read is what stands there.
use Rattle.std.proofs.Common.{◌≡◌, ℕ, ◌+◌, ◌-◌, ◌<◌, ◌≤◌, ◌==◌, inl, inr, Bool, true, false, cond, List, [], ◌∷◌, ◌++◌, length, All, Option, Some, None, refl}
use Rattle.std.proofs.Common.{sym, ap, ◌∙◌, subst, arith}
use Rattle.std.specs.Prelude.{codes, decimal}
use Rattle.std.specs.List.{flat_map}
use Rattle.std.proofs.lemmas.Bool.{eqb-true, eqb-false}
use Rattle.std.proofs.lemmas.List.{append-nil, length_push}
use Rattle.std.proofs.lemmas.List.Elements.{All-nil, All-push}
use Rattle.std.proofs.lemmas.Fmt.{decimal_digit}
use Rattle.ltl_syntax.specs.declared.node.Kind.{Kind}
use Rattle.ltl_syntax.specs.declared.node.Kind.TheVariants as Kinds
use Rattle.cnf_base.specs.declared.literal.Literal.{Literal}
use Rattle.cert_text.specs.Text.{IsLiteral, IsNumber, IsHint, greatest_u64, kind_text, literal_text, hint_text, target_text}
use Rattle.cert_text.specs.Scan.{literal, hint}
use Rattle.cert_text.proofs.Places.{flat_more, first_text, digit_text}
use Rattle.cert_text.proofs.Leading.{HasRead, LeadsOn, reads_on}
use Rattle.cert_text.proofs.Digits.{Gives, gives_none, gives_some, gives_if, gives_at, gives_first, gives_digit}
use Rattle.cert_text.proofs.Sound.{literal_more, hint_more, hint_number, target_more}
use Rattle.claims.specs.Certificate.{HintedLine, Layer}
use Rattle.claim_text.specs.Text.{eventuality_number, claim_text, line_text, targets_text, layer_text, base_targets_of, base_count, IsEventuality, IsLine}
use Rattle.claim_text.specs.Text.{IsHead, IsBased, IsLayer, IsTextOf}
use Rattle.claim_text.specs.Scan.{Draft, Next, Scan, outside, start, opened, certificate_of, wanted, wanted_in, with_claim, with_base, with_step, closed, acted}
use Rattle.claim_text.specs.Scan.{greatest_in, place_behind, end_in, first_in, number_in, nought_in, literal_in, item_in, decided, moved, step, run}
use Rattle.claim_text.specs.declared.place.Section.{Section}
use Rattle.claim_text.specs.declared.place.Section.TheVariants as sections
use Rattle.claim_text.specs.declared.place.Role.{Role}
use Rattle.claim_text.specs.declared.place.Role.TheVariants as roles
use Rattle.claim_text.specs.declared.place.Place.{Place}
use Rattle.claim_text.specs.declared.place.Place.TheVariants as places
use Rattle.claim_text.specs.declared.place.Act.{Act}
use Rattle.claim_text.specs.declared.place.Act.TheVariants as acts
use Rattle.claim_text.proofs.Places.{digits_in, open_before, parts_before, draft_before, word, claim_word, literals_before, targets_before, role_before, before}
use Rattle.claim_text.proofs.Places.{IsOpen, HasClaims, MayStand, AreLiterals, AreTargets, IsFresh, IsItem, IsRole, IsPlace, claim_is, line_is, layer_is}

-- the byte at the place leads to a place up to which the text is one byte longer, and what is true there
abbrev Leads : Place → Draft → ℕ → (List ℕ × Place × Act) → Type 0
Leads p d b t = ((rest : List ℕ) → before p d (b ∷ (t.0 ++ rest)) ≡ before t.1 (acted t.2 d) rest) × IsPlace t.1 (acted t.2 d)

-- the first digit of a number, where a number of this role may stand
first_leads : (p : Place) (d : Draft) (role : Role) (b : ℕ) → ((rest : List ℕ) → before p d rest ≡ role_before role d rest) → IsRole role d
    → 9 ≤ greatest_in role → Gives (Leads p d b) (first_in role b)
first_leads p d role b same is room =
    gives_first (Leads p d b) (digits_in role) b
    (λ low high. (λ rest. same (b ∷ rest) ∙ ap (role_before role d) (first_text b rest low high), (is, omega arith, omega arith)))

-- a claim is put behind the claims
claim_more : (kind : Kind) (layers : List Layer) (l : Layer) (ls : List Literal) (rest : List ℕ)
    → parts_before kind layers sections.Base l [] (codes "c " ++ (flat_map literal_text ls ++ (48 ∷ 10 ∷ rest))) ≡ parts_before kind layers sections.Base
    (with_claim l ls) [] rest
claim_more kind layers l ls rest =
    ap (λ x. codes "ltlinv 1 "
    ++ (kind_text kind ++ (10 ∷ (flat_map layer_text layers ++ (codes "layer " ++ (decimal (eventuality_number l.eventuality) ++ (10 ∷ x)))))))
    (ap (λ x. flat_map claim_text l.claims ++ x) (claim_is ls rest) ∙ sym (flat_more claim_text l.claims ls rest))

-- a line behind the lines
line_more : (kind : Kind) (layers : List Layer) (section : Section) (l : Layer) (lines : List HintedLine) (line : HintedLine) (rest : List ℕ)
    → parts_before kind layers section l lines (flat_map literal_text line.literals ++ (codes "0 " ++ (flat_map hint_text line.hints ++ (48 ∷ 10 ∷ rest))))
    ≡ parts_before kind layers section l (lines ++ line ∷ []) rest
line_more kind layers section l lines line rest =
    ap (λ x. codes "ltlinv 1 " ++ (kind_text kind ++ (10 ∷ (flat_map layer_text layers ++ open_before section l x))))
    (ap (λ x. flat_map line_text lines ++ x) (line_is line rest) ∙ sym (flat_more line_text lines line rest))

-- behind the claim
claim_leads : (p : Place) (d : Draft) → ((rest : List ℕ) → before p d rest ≡ literals_before true d rest) → AreLiterals true d
    → Leads p d 48 (codes "\n", places.Item, acts.Claim)
claim_leads p d same are = (text, item)
  where
    text : (rest : List ℕ) → before p d (48 ∷ 10 ∷ rest) ≡ parts_before d.kind d.layers d.section (with_claim d.layer d.literals) d.lines rest
    text rest =
        same (48 ∷ 10 ∷ rest)
        ∙ subst (λ s. parts_before d.kind d.layers s d.layer d.lines (codes "c " ++ (flat_map literal_text d.literals ++ (48 ∷ 10 ∷ rest)))
        ≡ parts_before d.kind d.layers s (with_claim d.layer d.literals) d.lines rest) (sym are.may.0)
        (subst (λ ls. parts_before d.kind d.layers sections.Base d.layer ls (codes "c " ++ (flat_map literal_text d.literals ++ (48 ∷ 10 ∷ rest)))
        ≡ parts_before d.kind d.layers sections.Base (with_claim d.layer d.literals) ls rest) (sym are.may.1)
        (claim_more d.kind d.layers d.layer d.literals rest))

    head : (s : Section) → s ≡ sections.Base → IsOpen s d.layer → IsOpen s (with_claim d.layer d.literals)
    head sections.Outside e is = tt
    head sections.Base e is = record { eventuality = is.eventuality; claims = All-push (All IsLiteral) d.layer.claims d.literals is.claims are.literals }
    head sections.Step e is = cc

    item : IsItem (acted acts.Claim d)
    item = record {
      draft = record { layers = are.draft.layers; lines = are.draft.lines; layer = head d.section are.may.0 are.draft.layer };
      clear = record { literals = refl; hints = are.hints; targets = are.targets };
      may = inr are.may.1;
    }

-- a literal or the 0 behind the literals
nought_leads : (claim : Bool) (p : Place) (d : Draft) → ((rest : List ℕ) → before p d rest ≡ literals_before claim d rest) → AreLiterals claim d
    → Gives (Leads p d 48) (nought_in claim)
nought_leads true p d same are = gives_some (Leads p d 48) (codes "\n", places.Item, acts.Claim) (claim_leads p d same are)
nought_leads false p d same are = gives_some (Leads p d 48) (codes " ", places.Hint, acts.Nothing) (
  λ rest. same (48 ∷ 32 ∷ rest) ∙ subst (λ hs. literals_before false d (48 ∷ 32 ∷ rest) ≡ draft_before d
      (flat_map literal_text d.literals ++ (codes "0 " ++ (flat_map hint_text hs ++ rest)))) (sym are.hints) refl,
  record { draft = are.draft; literals = are.literals; hints = subst (All IsHint) (sym are.hints) (All-nil IsHint); targets = are.targets; may = are.may },
)

literal_leads : (claim : Bool) (p : Place) (d : Draft) (b : ℕ) → ((rest : List ℕ) → before p d rest ≡ literals_before claim d rest) → AreLiterals claim d
    → Gives (Leads p d b) (literal_in claim b)
literal_leads claim p d b same are =
    gives_at (Leads p d) b 48 _ _ (nought_leads claim p d same are)
    (gives_at (Leads p d) b 45 _ _ (gives_some (Leads p d 45) ([], places.First (roles.Literal claim true), acts.Nothing) (λ rest. same (45 ∷ rest), are))
    (first_leads p d (roles.Literal claim false) b same are (omega arith)))

-- the close or a section's end
last_leads : (d : Draft) (n : ℕ) (s : Section) → d.section ≡ s → AreTargets d → IsNumber n → length d.targets + 1 ≡ wanted d
    → ((rest : List ℕ) → targets_before d (32 ∷ (decimal n ++ (10 ∷ rest))) ≡ before (place_behind s) (closed s d n) rest)
    × IsPlace (place_behind s) (closed s d n)
last_leads d n sections.Outside e are is last =
    (text, record { draft = record { layers = are.draft.layers; lines = are.draft.lines; layer = tt }; section = refl; target = is })
  where
    none : (ts : List ℕ) → length ts + 1 ≡ 1 → ts ≡ []
    none [] f = refl
    none (t ∷ ts) f = absurd (omega (arith, f))

    text : (rest : List ℕ) → targets_before d (32 ∷ (decimal n ++ (10 ∷ rest))) ≡ parts_before d.kind d.layers sections.Outside d.layer d.lines
        (codes "close " ++ (decimal n ++ (10 ∷ rest)))
    text rest =
        let empty : d.targets ≡ [] = none d.targets (last ∙ ap (λ s. wanted_in s d.layer) e) in
        ap (λ s. parts_before d.kind d.layers s d.layer d.lines (word s ++ (flat_map target_text d.targets ++ (32 ∷ (decimal n ++ (10 ∷ rest)))))) e
        ∙ ap (λ ts. parts_before d.kind d.layers sections.Outside d.layer d.lines
        (codes "close" ++ (flat_map target_text ts ++ (32 ∷ (decimal n ++ (10 ∷ rest)))))) empty
last_leads d n sections.Base e are is last = (
  text,
  record {
    draft = record { layers = are.draft.layers; lines = All-nil IsLine; layer = based };
    clear = record { literals = are.literals; hints = are.hints; targets = refl };
    may = inl tt;
  },
)
  where
    text : (rest : List ℕ) → targets_before d (32 ∷ (decimal n ++ (10 ∷ rest))) ≡ draft_before (closed sections.Base d n) rest
    text rest =
        ap (λ s. parts_before d.kind d.layers s d.layer d.lines (word s ++ (flat_map target_text d.targets ++ (32 ∷ (decimal n ++ (10 ∷ rest)))))) e
        ∙ ap (λ x. parts_before d.kind d.layers sections.Base d.layer d.lines (codes "base" ++ x)) (target_more d.targets n (10 ∷ rest))

    based : IsBased (with_base d.layer d.lines (d.targets ++ n ∷ []))
    based =
        let head : IsHead d.layer = subst (λ s. IsOpen s d.layer) e are.draft.layer in
        record {
          head = record { eventuality = head.eventuality; claims = head.claims };
          some = subst (λ s. HasClaims s d.layer) e are.may;
          lines = are.draft.lines;
          count = length_push d.targets n ∙ last ∙ ap (λ s. wanted_in s d.layer) e;
          targets = All-push IsNumber d.targets n are.targets is;
        }
last_leads d n sections.Step e are is last = (
  text,
  record {
    draft = record {
      layers = All-push IsLayer d.layers (with_step d.layer d.lines (d.targets ++ n ∷ [])) are.draft.layers whole;
      lines = All-nil IsLine;
      layer = tt;
    };
    clear = record { literals = are.literals; hints = are.hints; targets = refl };
    may = inl tt;
  },
)
  where
    text : (rest : List ℕ) → targets_before d (32 ∷ (decimal n ++ (10 ∷ rest))) ≡ parts_before d.kind
        (d.layers ++ with_step d.layer d.lines (d.targets ++ n ∷ []) ∷ []) sections.Outside (opened None) [] rest
    text rest =
        ap (λ s. parts_before d.kind d.layers s d.layer d.lines (word s ++ (flat_map target_text d.targets ++ (32 ∷ (decimal n ++ (10 ∷ rest)))))) e
        ∙ ap (λ x. parts_before d.kind d.layers sections.Step d.layer d.lines (codes "step" ++ x)) (target_more d.targets n (10 ∷ rest))
        ∙ ap (λ x. codes "ltlinv 1 " ++ (kind_text d.kind ++ (10 ∷ x)))
        (ap (λ x. flat_map layer_text d.layers ++ x) (layer_is (with_step d.layer d.lines (d.targets ++ n ∷ [])) rest)
        ∙ sym (flat_more layer_text d.layers (with_step d.layer d.lines (d.targets ++ n ∷ [])) rest))

    whole : IsLayer (with_step d.layer d.lines (d.targets ++ n ∷ []))
    whole =
        let based : IsBased d.layer = subst (λ s. IsOpen s d.layer) e are.draft.layer in
        record {
          based = record {
            head = record {
              eventuality = based.head.eventuality;
              claims = based.head.claims;
            };
            some = based.some;
            lines = based.lines;
            count = based.count;
            targets = based.targets;
          };
          lines = are.draft.lines;
          count = length_push d.targets n ∙ last ∙ ap (λ s. wanted_in s d.layer) e;
          targets = All-push IsNumber d.targets n are.targets is;
        }

-- a layer begins
fresh_text : (d : Draft) (e : Option ℕ) → IsFresh d → (rest : List ℕ)
    → draft_before d (codes "layer " ++ (decimal (eventuality_number e) ++ (10 ∷ rest))) ≡ draft_before (acted (acts.Layer e) d) rest
fresh_text d e is rest =
    subst (λ s. parts_before d.kind d.layers s d.layer d.lines (codes "layer " ++ (decimal (eventuality_number e) ++ (10 ∷ rest)))
    ≡ parts_before d.kind d.layers sections.Base (opened e) d.lines rest) (sym is.section)
    (subst (λ ls. parts_before d.kind d.layers sections.Outside d.layer ls (codes "layer " ++ (decimal (eventuality_number e) ++ (10 ∷ rest)))
    ≡ parts_before d.kind d.layers sections.Base (opened e) ls rest) (sym is.lines) refl)

fresh_item : (d : Draft) (e : Option ℕ) → IsFresh d → IsEventuality e → IsItem (acted (acts.Layer e) d)
fresh_item d e is fits = record {
  draft = record { layers = is.draft.layers; lines = is.draft.lines; layer = record { eventuality = fits; claims = All-nil (All IsLiteral) } };
  clear = record { literals = is.clear.literals; hints = is.clear.hints; targets = is.clear.targets };
  may = inr is.lines;
}

-- what may stand is not changed by literals
pub same_may : (claim : Bool) (d c : Draft) → d.section ≡ c.section → d.layer ≡ c.layer → d.lines ≡ c.lines → MayStand claim d → MayStand claim c
same_may true d c s l ls may = (sym s ∙ may.0, sym ls ∙ may.1)
same_may false d c s l ls may = subst (λ x. HasClaims x c.layer) s (subst (HasClaims d.section) l may)

-- each number that a role allows is below 2 ^ 64
pub greatest_fits : (role : Role) → greatest_in role ≤ greatest_u64
greatest_fits roles.Eventuality = omega arith
greatest_fits other = omega arith

-- the byte behind a number
end_leads : (role : Role) (n : ℕ) (d : Draft) (b : ℕ) → IsRole role d → 1 ≤ n → n ≤ greatest_in role
    → Gives (Leads (places.More role n) d b) (end_in role n d b)
end_leads roles.Eventuality n d b is one few =
    let p = places.More roles.Eventuality n in
    let m : n - 1 + 1 ≡ n = omega (arith, one) in
    let text : (rest : List ℕ)
    → draft_before d (codes "layer " ++ (decimal n ++ (10 ∷ rest))) ≡ draft_before (acted (acts.Layer (Some (n - 1))) d) rest = λ rest.
    subst (λ k. draft_before d (codes "layer " ++ (decimal k ++ (10 ∷ rest))) ≡ draft_before (acted (acts.Layer (Some (n - 1))) d) rest) m
    (fresh_text d (Some (n - 1)) is rest) in
    gives_at (Leads p d) b 10 _ _
    (gives_some (Leads p d 10) ([], places.Item, acts.Layer (Some (n - 1))) (text, fresh_item d (Some (n - 1)) is (omega (arith, one, few))))
    (gives_none (Leads p d b))
end_leads (roles.Literal claim negated) n d b is one few =
    let p = places.More (roles.Literal claim negated) n in
    gives_at (Leads p d) b 32 _ _ (gives_some (Leads p d 32) ([], places.Literal claim, acts.Literal (literal negated n)) (
      λ rest. ap (λ x. draft_before d (claim_word claim ++ x)) (literal_more d.literals negated n rest),
      record {
        draft = record { layers = is.draft.layers; lines = is.draft.lines; layer = is.draft.layer };
        literals = All-push IsLiteral d.literals (literal negated n) is.literals (one, few);
        hints = is.hints;
        targets = is.targets;
        may = same_may claim d (acted (acts.Literal (literal negated n)) d) refl refl refl is.may;
      },
    ))
    (gives_none (Leads p d b))
end_leads (roles.Hint negated) n d b is one few =
    let p = places.More (roles.Hint negated) n in
    gives_at (Leads p d) b 32 _ _ (gives_some (Leads p d 32) ([], places.Hint, acts.Hint (hint negated n)) (
      λ rest. ap (λ x. draft_before d (flat_map literal_text d.literals ++ (codes "0 " ++ x))) (hint_more d.hints negated n rest),
      record {
        draft = record { layers = is.draft.layers; lines = is.draft.lines; layer = is.draft.layer };
        literals = is.literals;
        hints = All-push IsHint d.hints (hint negated n) is.hints (hint_number negated n (one, few));
        targets = is.targets;
        may = is.may;
      },
    ))
    (gives_none (Leads p d b))
end_leads roles.Target n d b is one few =
    let p = places.More roles.Target n in
    gives_if (Leads p d b) (length d.targets + 1 == wanted d) _ _
    (λ e. gives_at (Leads p d) b 10 _ _ (gives_some (Leads p d 10) ([], place_behind d.section, acts.Last n)
    (last_leads d n d.section refl is (one, few) (eqb-true (length d.targets + 1) (wanted d) e)))
    (gives_none (Leads p d b)))
    (λ e. gives_at (Leads p d) b 32 _ _ (gives_some (Leads p d 32) ([], places.First roles.Target, acts.Target n) (
      λ rest. ap (λ x. draft_before d (word d.section ++ x)) (target_more d.targets n (32 ∷ rest)),
      record {
        draft = record { layers = is.draft.layers; lines = is.draft.lines; layer = is.draft.layer };
        literals = is.literals;
        hints = is.hints;
        targets = All-push IsNumber d.targets n is.targets (one, few);
        few = omega (arith, length_push d.targets n, is.few, eqb-false (length d.targets + 1) (wanted d) e);
        may = is.may;
      },
    ))
    (gives_none (Leads p d b)))

number_leads : (role : Role) (d : Draft) (b : ℕ) → IsRole role d → Gives (Leads (places.First role) d b) (number_in role b)
number_leads roles.Eventuality d b is =
    let p = places.First roles.Eventuality in
    gives_at (Leads p d) b 48 _ _ (gives_some (Leads p d 48) (codes "\n", places.Item, acts.Layer None) (
      λ rest. ap (λ ds. draft_before d (codes "layer " ++ (ds ++ (10 ∷ rest)))) (sym (decimal_digit 0 (omega arith))) ∙ fresh_text d None is rest,
      fresh_item d None is tt,
    ))
    (first_leads p d roles.Eventuality b (λ rest. refl) is (omega arith))
number_leads (roles.Literal claim negated) d b is =
    first_leads (places.First (roles.Literal claim negated)) d (roles.Literal claim negated) b (λ rest. refl) is (omega arith)
number_leads (roles.Hint negated) d b is = first_leads (places.First (roles.Hint negated)) d (roles.Hint negated) b (λ rest. refl) is (omega arith)
number_leads roles.Target d b is = first_leads (places.First roles.Target) d roles.Target b (λ rest. refl) is (omega arith)

-- at the front of a line there are no literals so far
item_literals : (claim : Bool) (d : Draft) → IsItem d → MayStand claim d → AreLiterals claim d
item_literals claim d is may = record {
  draft = is.draft;
  literals = subst (All IsLiteral) (sym is.clear.literals) (All-nil IsLiteral);
  hints = is.clear.hints;
  targets = is.clear.targets;
  may = may;
}

item_text : (claim : Bool) (d : Draft) → IsItem d → (rest : List ℕ) → draft_before d (claim_word claim ++ rest) ≡ literals_before claim d rest
item_text claim d is rest = subst (λ ls. draft_before d (claim_word claim ++ rest) ≡ draft_before d (claim_word claim ++ (flat_map literal_text ls ++ rest)))
    (sym is.clear.literals) refl

line_leads : (d : Draft) (b : ℕ) → IsItem d → HasClaims d.section d.layer → Gives (Leads places.Item d b) (literal_in false b)
line_leads d b is may = literal_leads false places.Item d b (item_text false d is) (item_literals false d is may)

-- the word before targets
word_leads : (d : Draft) (b : ℕ) (more : List ℕ) → IsItem d → HasClaims d.section d.layer → 1 ≤ wanted d
    → ((rest : List ℕ) → b ∷ (more ++ rest) ≡ word d.section ++ (32 ∷ rest))
    → Leads places.Item d b (more, places.First roles.Target, acts.Nothing)
word_leads d b more is may some same = (
  λ rest. ap (draft_before d) (same rest)
      ∙ subst (λ ts. draft_before d (word d.section ++ (32 ∷ rest)) ≡ draft_before d (word d.section ++ (flat_map target_text ts ++ (32 ∷ rest))))
      (sym is.clear.targets) refl,
  record {
    draft = is.draft;
    literals = is.clear.literals;
    hints = is.clear.hints;
    targets = subst (All IsNumber) (sym is.clear.targets) (All-nil IsNumber);
    few = subst (λ ts. length ts < wanted d) (sym is.clear.targets) (omega (arith, some));
    may = may;
  },
)

none_from : {X : Type 0} (xs : List X) → length xs ≡ 0 → xs ≡ []
none_from [] e = refl
none_from (x ∷ xs) e = absurd (omega (arith, e))

base_some : (l : Layer) → 1 ≤ length l.claims → 1 ≤ base_count l
base_some l some = go l.eventuality
  where
    go : (e : Option ℕ) → 1 ≤ base_targets_of e (length l.claims)
    go None = some
    go (Some e) = omega (arith, some)

item_leads : (d : Draft) (b : ℕ) (s : Section) → d.section ≡ s → IsItem d → Gives (Leads places.Item d b) (item_in s d b)
item_leads d b sections.Outside e is =
    let p = places.Item in
    let may : HasClaims d.section d.layer = subst (λ s. HasClaims s d.layer) (sym e) tt in
    gives_at (Leads p d) b 99 _ _ (gives_some (Leads p d 99) (codes "lose ", places.First roles.Target, acts.Nothing)
    (word_leads d 99 (codes "lose ") is may (subst (λ s. 1 ≤ wanted_in s d.layer) (sym e) (omega arith)) (λ rest. ap (λ s. word s ++ (32 ∷ rest)) (sym e))))
    (gives_at (Leads p d) b 108 _ _ (gives_if (Leads p d 108) (length d.lines == 0) _ _
    (λ f. gives_some (Leads p d 108) (codes "ayer ", places.First roles.Eventuality, acts.Nothing) (
      λ rest. refl,
      record { draft = is.draft; clear = is.clear; section = e; lines = none_from d.lines (eqb-true (length d.lines) 0 f) },
    ))
    (λ f. gives_none (Leads p d 108)))
    (line_leads d b is may))
item_leads d b sections.Base e is =
    let p = places.Item in
    gives_at (Leads p d) b 99 _ _ (gives_if (Leads p d 99) (length d.lines == 0) _ _
    (λ f. gives_some (Leads p d 99) (codes " ", places.Literal true, acts.Nothing)
    (item_text true d is, item_literals true d is (e, none_from d.lines (eqb-true (length d.lines) 0 f))))
    (λ f. gives_none (Leads p d 99)))
    (gives_if (Leads p d b) (length d.layer.claims == 0) _ _ (λ f. gives_none (Leads p d b))
    (λ f.
    let some : 1 ≤ length d.layer.claims = omega (arith, eqb-false (length d.layer.claims) 0 f) in
    let may : HasClaims d.section d.layer = subst (λ s. HasClaims s d.layer) (sym e) some in
    gives_at (Leads p d) b 98 _ _ (gives_some (Leads p d 98) (codes "ase ", places.First roles.Target, acts.Nothing)
    (word_leads d 98 (codes "ase ") is may (subst (λ s. 1 ≤ wanted_in s d.layer) (sym e) (base_some d.layer some))
    (λ rest. ap (λ s. word s ++ (32 ∷ rest)) (sym e))))
    (line_leads d b is may)))
item_leads d b sections.Step e is =
    let p = places.Item in
    let based : IsBased d.layer = subst (λ s. IsOpen s d.layer) e is.draft.layer in
    let may : HasClaims d.section d.layer = subst (λ s. HasClaims s d.layer) (sym e) tt in
    gives_at (Leads p d) b 115 _ _ (gives_some (Leads p d 115) (codes "tep ", places.First roles.Target, acts.Nothing)
    (word_leads d 115 (codes "tep ") is may (subst (λ s. 1 ≤ wanted_in s d.layer) (sym e) based.some) (λ rest. ap (λ s. word s ++ (32 ∷ rest)) (sym e))))
    (line_leads d b is may)

blank_item : (kind : Kind) → IsItem (outside kind [] [])
blank_item kind = record {
  draft = record { layers = All-nil IsLayer; lines = All-nil IsLine; layer = tt };
  clear = record { literals = refl; hints = refl; targets = refl };
  may = inl tt;
}

place_leads : (p : Place) (d : Draft) (b : ℕ) → IsPlace p d → Gives (Leads p d b) (decided p d b)
place_leads places.Kind d b is =
    gives_at (Leads places.Kind d) b 105 _ _
    (gives_some (Leads places.Kind d 105) (codes "nfinite\n", places.Item, acts.Kind Kinds.Infinite) (λ rest. refl, blank_item Kinds.Infinite))
    (gives_at (Leads places.Kind d) b 102 _ _ (gives_some (Leads places.Kind d 102) (codes "inite\n", places.Item, acts.Kind Kinds.Finite) (
      λ rest. refl,
      blank_item Kinds.Finite,
    ))
    (gives_none (Leads places.Kind d b)))
place_leads places.Item d b is = item_leads d b d.section refl is
place_leads (places.Literal claim) d b is = literal_leads claim (places.Literal claim) d b (λ rest. refl) is
place_leads places.Hint d b is =
    let p = places.Hint in
    gives_at (Leads p d) b 48 _ _ (gives_some (Leads p d 48) (codes "\n", places.Item, acts.Line) (
      λ rest. line_more d.kind d.layers d.section d.layer d.lines (record { literals = d.literals; hints = d.hints }) rest,
      record {
        draft = record {
          layers = is.draft.layers;
          lines = All-push IsLine d.lines (record {
            literals = d.literals;
            hints = d.hints;
          }) is.draft.lines (is.literals, is.hints);
          layer = is.draft.layer;
        };
        clear = record { literals = refl; hints = refl; targets = is.targets };
        may = inl is.may;
      },
    ))
    (gives_at (Leads p d) b 45 _ _ (gives_some (Leads p d 45) ([], places.First (roles.Hint true), acts.Nothing) (λ rest. refl, is))
    (first_leads p d (roles.Hint false) b (λ rest. refl) is (omega arith)))
place_leads (places.First role) d b is = number_leads role d b is
place_leads (places.More role n) d b is =
    gives_digit (Leads (places.More role n) d b) (digits_in role) (greatest_in role) n b (end_in role n d b)
    (λ low high few. (
      λ rest. ap (role_before role d) (digit_text n b rest is.1 low high (omega (arith, few, greatest_fits role))),
      (is.0, omega (arith, is.1), few),
    ))
    (end_leads role n d b is.0 is.1 is.2)
place_leads places.End d b is = gives_none (Leads places.End d b)

-- each byte leads on
abbrev pub left_of : Scan → List ℕ
left_of s = s.0

abbrev pub text_before : Scan → List ℕ → List ℕ
text_before s rest = before s.1 s.2 rest

abbrev pub IsReached : Scan → Type 0
IsReached s = IsPlace s.1 s.2

leads_on : (s : Scan) (b : ℕ) (t : Scan) → IsReached s → step s b ≡ Some t → LeadsOn left_of text_before IsReached s b t
leads_on (x ∷ xs, p, d) b t is e = go (b == x) refl e
  where
    go : (same : Bool) → (b == x) ≡ same → moved d (cond same (Some (xs, p, acts.Nothing)) None) ≡ Some t
        → LeadsOn left_of text_before IsReached (x ∷ xs, p, d) b t
    go true same f =
        let there : (xs, p, d) ≡ t = cc in
        subst (LeadsOn left_of text_before IsReached (x ∷ xs, p, d) b) there
        (subst (λ i. LeadsOn left_of text_before IsReached (x ∷ xs, p, d) i (xs, p, d)) (sym (eqb-true b x same)) (record {
          text = λ rest. (rest, refl, refl);
          place = is;
        }))
    go false same f = cc
leads_on ([], p, d) b t is e = go (decided p d b) (place_leads p d b is) e
  where
    go : (o : Next) → Gives (Leads p d b) o → moved d o ≡ Some t → LeadsOn left_of text_before IsReached ([], p, d) b t
    go None leads f = cc
    go (Some u) leads f =
        let there : (u.0, u.1, acted u.2 d) ≡ t = cc in
        let on = leads u refl in
        subst (LeadsOn left_of text_before IsReached ([], p, d) b) there (record { text = λ rest. (b ∷ (u.0 ++ rest), refl, on.0 rest); place = on.1 })

-- what is read from the first byte on
pub reads : (bytes : List ℕ) (t : Scan) → run start bytes ≡ Some t → HasRead left_of text_before IsReached bytes t
reads bytes t e = reads_on step left_of text_before IsReached leads_on bytes [] start t (record { text = λ rest. refl; place = refl }) e

-- a text that is read to its end is that of the certificate
pub read_whole : (bytes : List ℕ) (d : Draft) → run start bytes ≡ Some ([], places.End, d) → IsTextOf bytes (certificate_of d)
read_whole bytes d e =
    let has = reads bytes ([], places.End, d) e in
    let close : List ℕ = targets_text (codes "close") (d.target ∷ []) in
    record {
      lawful = record { layers = has.place.draft.layers; lines = has.place.draft.lines; target = has.place.target };
      spelled = sym (append-nil bytes) ∙ has.text []
          ∙ ap (λ s. parts_before d.kind d.layers s d.layer d.lines (codes "close " ++ (decimal d.target ++ (10 ∷ [])))) has.place.section
          ∙ ap (λ x. parts_before d.kind d.layers sections.Outside d.layer d.lines (codes "close " ++ x))
          (sym (ap (λ x. x ++ codes "\n") (append-nil (decimal d.target))));
    }
