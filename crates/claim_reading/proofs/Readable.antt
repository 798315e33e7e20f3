-- What a normal form is read as has that normal form.
use Rattle.std.proofs.Common.{◌≡◌, Bool, true, false, refl, sym, ap, ◌∙◌, if◌then◌else◌}
use Rattle.ltl_syntax.specs.Formula.{Formula, Unary, Binary}
use Rattle.ltl_syntax.specs.declared.node.UnaryOp.TheVariants.{Always, Eventually, Historically, Once}
use Rattle.ltl_syntax.specs.declared.node.BinaryOp.TheVariants.{Release, Since, Trigger, Until}
use Rattle.ltl_closure.specs.Norm.{Norm, NConst, NLetter, NNotLetter, NAnd, NOr, NNext, NWeakNext, NYesterday, NWeakYesterday, NUntil, NRelease, NSince}
use Rattle.ltl_closure.specs.Norm.{NTrigger, pos_of}
use Rattle.claim_reading.specs.Readable.{is_true, is_false, readable}

-- the constants
true_is : (a : Norm) → is_true a ≡ true → NConst true ≡ a
true_is (NConst b) e = ap NConst (sym e)
true_is _ e = cc

false_is : (a : Norm) → is_false a ≡ true → NConst false ≡ a
false_is (NConst true) e = cc
false_is (NConst false) e = refl
false_is _ e = cc

two : (J : Norm → Norm → Norm) (a b c d : Norm) → a ≡ c → b ≡ d → J a b ≡ J c d
two J a b c d e g = ap (λ z. J z b) e ∙ ap (J c) g

either : (b : Bool) (x y : Formula) (n : Norm) → (b ≡ true → pos_of x ≡ n) → (pos_of y ≡ n) → pos_of (if b then x else y) ≡ n
either true x y n h k = h refl
either false x y n h k = k

pub readable_normal : (n : Norm) → pos_of (readable n) ≡ n
readable_normal (NConst b) = refl
readable_normal (NLetter p) = refl
readable_normal (NNotLetter p) = refl
readable_normal (NAnd a b) = two NAnd _ _ _ _ (readable_normal a) (readable_normal b)
readable_normal (NOr a b) = two NOr _ _ _ _ (readable_normal a) (readable_normal b)
readable_normal (NNext a) = ap NNext (readable_normal a)
readable_normal (NWeakNext a) = ap NWeakNext (readable_normal a)
readable_normal (NYesterday a) = ap NYesterday (readable_normal a)
readable_normal (NWeakYesterday a) = ap NWeakYesterday (readable_normal a)
readable_normal (NUntil a b) = either (is_true a) (Unary Eventually (readable b)) (Binary Until (readable a) (readable b)) (NUntil a b)
    (λ e. two NUntil _ _ _ _ (true_is a e) (readable_normal b)) (two NUntil _ _ _ _ (readable_normal a) (readable_normal b))
readable_normal (NRelease a b) = either (is_false a) (Unary Always (readable b)) (Binary Release (readable a) (readable b)) (NRelease a b)
    (λ e. two NRelease _ _ _ _ (false_is a e) (readable_normal b)) (two NRelease _ _ _ _ (readable_normal a) (readable_normal b))
readable_normal (NSince a b) = either (is_true a) (Unary Once (readable b)) (Binary Since (readable a) (readable b)) (NSince a b)
    (λ e. two NSince _ _ _ _ (true_is a e) (readable_normal b)) (two NSince _ _ _ _ (readable_normal a) (readable_normal b))
readable_normal (NTrigger a b) = either (is_false a) (Unary Historically (readable b)) (Binary Trigger (readable a) (readable b)) (NTrigger a b)
    (λ e. two NTrigger _ _ _ _ (false_is a e) (readable_normal b)) (two NTrigger _ _ _ _ (readable_normal a) (readable_normal b))
