-- From a limit and a decision to the answer of `solve`.
use Rattle.std.proofs.Common.{◌≡◌, ℕ, ◌≤◌, Bool, Option, Some, None, unwrap_or, subst, arith}
use Rattle.ltl_syntax.specs.declared.node.Kind.{Kind}
use Rattle.ltl_syntax.specs.Formula.{Formula}
use Rattle.ltl_closure.specs.Entries.{ClosureValue}
use Rattle.report.specs.declared.fault.Fault.TheVariants as faults
use Rattle.command_words.specs.Asked.{IsDepth}
use Rattle.black_top.specs.Answer.{Answer, refused}
use Rattle.enc_layout.specs.Limit.{IsInForce}
use Rattle.black_top.specs.Solve.{number_of, IsDecided, IsSettled, too_deep, decided}
use Rattle.black_top.specs.Inner.{IsLimit, IsTooDeep}

-- the limit in force of a closure's formula
pub in_force : (c : ClosureValue) (f : Formula) (kind : Kind) (n d : ℕ) → c.formula ≡ f → c.kind ≡ kind → IsInForce c.formula c.kind n d → IsInForce f kind n d
in_force c f kind n d formula same force = subst (λ k. IsInForce f k n d) same (subst (λ g. IsInForce g c.kind n d) formula force)

-- the depth that was asked for is refused
pub refused_letters : (c : ClosureValue) (kind : Kind) (wanted : Option ℕ) (core cert : Bool) (f : Formula) (d : ℕ)
    → c.formula ≡ f → c.kind ≡ kind → IsTooDeep c.formula c.kind wanted d
    → IsSettled kind wanted core cert f (refused (faults.Letters d))
refused_letters c kind wanted core cert f d formula same (n, is, force, less) = too_deep n d is (in_force c f kind n d formula same force) less

pub number_is : (wanted : Option ℕ) (n : ℕ) → n ≡ unwrap_or wanted 64 → n ≡ number_of wanted
number_is (Some m) n e = e
number_is None n e = e

-- the verdict at the limit
pub settled_at : (c : ClosureValue) (kind : Kind) (wanted : Option ℕ) (core cert : Bool) (f : Formula) (n d : ℕ)
    → c.formula ≡ f → c.kind ≡ kind → n ≡ unwrap_or wanted 64 → IsLimit c.formula c.kind wanted d
    → (a : Answer) → IsDecided c.formula c.kind n d core cert a → IsSettled kind wanted core cert f a
settled_at c kind wanted core cert f n d formula same is (force, reached) a there =
    let h = subst (λ k. IsDecided f k n d core cert a) same (subst (λ g. IsDecided g c.kind n d core cert a) formula there) in
    decided d a (in_force c f kind (number_of wanted) d formula same force) reached (subst (λ k. IsDecided f kind k d core cert a) (number_is wanted n is) h)

-- the number up to which the limit in force is taken is at most 1,000
pub number_small : (wanted : Option ℕ) (n : ℕ) → IsDepth wanted → n ≡ unwrap_or wanted 64 → n ≤ 1000
number_small (Some m) n small e = omega (arith, small, e)
number_small None n small e = omega (arith, e)
