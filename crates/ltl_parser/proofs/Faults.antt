-- The byte of a grammar fault, and what the walk knows between two tokens.
use Rattle.std.proofs.Common.{◌≡◌, ℕ, zero, suc, ◌+◌, ◌<◌, ◌≤◌, Bool, List, [], ◌∷◌, length, drop, get_or, arith, refl, ap, ◌∙◌}
use Rattle.std.specs.Prelude.{Option, Some, None}
use Rattle.ltl_lexer.specs.declared.token.Token.{Token}
use Rattle.ltl_parser.specs.Grammar.{Symbol, fault, walk, later, node_count, weight}
use Rattle.ltl_parser.specs.Text.{symbols, grammar_fault, byte_of, byte_at}
use Rattle.ltl_parser.specs.Standing.{want, ahead, IsWalking}

byte_in : (ts : List Token) (end i : ℕ) (d : Token) → i < length ts → byte_of ts end i ≡ (get_or ts i d).start
byte_in [] end i d lt = absurd (omega arith)
byte_in (t ∷ ts) end zero d lt = refl
byte_in (t ∷ ts) end (suc i) d lt = byte_in ts end i d (omega arith)

byte_behind : (ts : List Token) (end i : ℕ) → length ts ≤ i → byte_of ts end i ≡ end
byte_behind [] end i le = refl
byte_behind (t ∷ ts) end zero le = absurd (omega arith)
byte_behind (t ∷ ts) end (suc i) le = byte_behind ts end i (omega arith)

pub fault_at : (text : List ℕ) (ts : List Token) (i : ℕ) (d : Token) → fault (symbols text ts) ≡ Some i → i < length ts
    → grammar_fault text ts ≡ Some ((get_or ts i d).start)
fault_at text ts i d e lt = ap (byte_at text ts) e ∙ ap Some (byte_in ts (length text) i d lt)

pub fault_behind : (text : List ℕ) (ts : List Token) (i : ℕ) → fault (symbols text ts) ≡ Some i → length ts ≤ i → grammar_fault text ts ≡ Some (length text)
fault_behind text ts i e le = ap (byte_at text ts) e ∙ ap Some (byte_behind ts (length text) i le)

ahead_later : (i : ℕ) (x : Option ℕ) → ahead i (later x) ≡ ahead (i + 1) x
ahead_later i None = refl
ahead_later i (Some n) = ap Some (omega arith)

pub walking_next : (ss : List Symbol) (i : ℕ) (w v : Bool) (n m k j : ℕ) (x : Symbol)
    → drop i ss ≡ x ∷ drop (i + 1) ss → ((rest : List Symbol) → walk (want w) n (x ∷ rest) ≡ later (walk (want v) m rest)) → weight x ≡ j → IsWalking ss i w n k
    → IsWalking ss (i + 1) v m (k + j)
walking_next ss i w v n m k j x h s e g = record {
  place = g.place ∙ ap (λ z. ahead i (walk (want w) n z)) h ∙ ap (ahead i) (s (drop (i + 1) ss)) ∙ ahead_later i (walk (want v) m (drop (i + 1) ss));
  counted = let c = g.counted in let d = ap node_count h in omega arith;
}

pub walking_fault : (ss : List Symbol) (i : ℕ) (w : Bool) (n k : ℕ) (rest : List Symbol) (x : Symbol)
    → drop i ss ≡ x ∷ rest → walk (want w) n (x ∷ rest) ≡ Some 0 → IsWalking ss i w n k → fault ss ≡ Some i
walking_fault ss i w n k rest x h e g = g.place ∙ ap (λ z. ahead i (walk (want w) n z)) h ∙ ap (ahead i) e ∙ ap Some (omega arith)
