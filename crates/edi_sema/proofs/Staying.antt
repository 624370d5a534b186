-- What stands behind statements and declarations, and what they leave as it was.
use Rattle.std.proofs.Common.{◌≡◌, ℕ, ◌<◌, ◌≤◌, List, [], ◌∷◌, length, drop, nat_le, Result, Ok, Err, OnOk, refl, ap, sym, ◌∙◌, subst, arith}
use Rattle.std.proofs.lemmas.List.{length-map, length-append}
use Rattle.edi_scope.specs.Scope.{Scope, outside}
use Rattle.edi_unit.specs.Types.{greatest_size}
use Rattle.edi_unit.specs.Tree.{Acts, Block}
use Rattle.edi_unit.specs.Need.{need}
use Rattle.edi_unit.specs.Headings.{Heading}
use Rattle.edi_static.specs.declared.faults.StaticKind.TheVariants as kind
use Rattle.edi_static.specs.declared.faults.StaticFault.{StaticFault}
use Rattle.edi_static.specs.Judged.{Judged, gives}
use Rattle.edi_static.specs.Environment.{Begun, Environment, set_block}
use Rattle.edi_static.specs.Statements.{add_statements, close_block, enter_branch}
use Rattle.edi_static.specs.Answers.{JudgedAnswers}
use Rattle.edi_static.specs.Proper.{Proper}
use Rattle.edi_static.proofs.Judging.{Gives, ruled}
use Rattle.edi_static.proofs.Proper.{set_block_proper, around_proper}
use Rattle.edi_sema.specs.Frames.{kinds, DeclarationFrame, frame, setting, BegunFit, EnvironmentStands, Comes, Stays}
use Rattle.edi_sema.specs.Blocks.{outside_block}

-- what holds of whatever a construct gives holds where it is answered
pub answered : {A B : Type 0} (P : A → Type 0) (a : A) (r : Result B StaticFault) (m : Judged A) → JudgedAnswers (λ _. a) r m → Gives P m → OnOk r (P a)
answered P a (Ok b) m e g = subst (Gives P) e g
answered P a (Err f) m e g = tt

-- ---- scopes

pub outside_kinds : (ss : List Scope) → kinds (outside ss) ≡ drop 1 (kinds ss)
outside_kinds [] = refl
outside_kinds (s ∷ ss) = refl

pub kinds_length : (ss : List Scope) → length (kinds ss) ≡ length ss
kinds_length ss = length-map ss (λ s. s.is_module)

pub as_many_scopes : (ss ts : List Scope) → kinds ss ≡ kinds ts → length ss ≡ length ts
as_many_scopes ss ts e = sym (kinds_length ss) ∙ (ap length e ∙ kinds_length ts)

pub begun_grown : (hs ks : List Heading) (bs : List Begun) → length hs ≤ length ks → BegunFit hs bs → BegunFit ks bs
begun_grown hs ks bs le h = λ i d lt. omega (arith, h i d lt, le)

-- ---- statements

pub stays_self : (env : Environment) → Proper env → Stays env env
stays_self env p = record { same = refl; grows = omega arith; proper = p }

pub stays_then : (a b c : Environment) → Stays a b → Stays b c → Stays a c
stays_then a b c h k = record { same = k.same ∙ h.same; grows = omega (arith, h.grows, k.grows); proper = k.proper }

pub set_stays : (n : ℕ) (b : Block) (env : Environment) → Proper env → Stays env (set_block n b env)
set_stays n b env p = record { same = refl; grows = omega arith; proper = set_block_proper n b env p }

pub add_stays : (n : ℕ) (s : Acts) (env : Environment) → Proper env → Stays env (add_statements n s env)
add_stays n s env p = set_stays n _ env p

pub close_stays : (n : ℕ) (s : Acts) (line : ℕ) (env : Environment) → Proper env → Gives (Stays env) (close_block n s line env)
close_stays n s line env p =
    let after : Environment = add_statements n s env in
    let h : Stays env after = add_stays n s env p in
    ruled (Stays env) (nat_le (need after.types after.blocks n) greatest_size) kind.Range line _ (λ _.
    stays_then env after _ h (set_stays n _ after h.proper))

-- a branch is left
pub branch_around : (env b c : Environment) → Stays (enter_branch env) b → Stays b c → c.around ≡ length env.blocks ∷ env.around
branch_around env b c h k = ap (λ e. e.around) k.same ∙ ap (λ e. e.around) h.same

pub branch_stays : (env b c : Environment) → Stays (enter_branch env) b → Stays b c → Stays env (outside_block c)
branch_stays env b c h k = record {
  same = ap outside_block (k.same ∙ h.same);
  grows = omega (arith, h.grows, k.grows, length-append env.headings);
  proper = around_proper (drop 1 c.around) c.begun c k.proper;
}

-- ---- declarations

pub comes_self : (env : Environment) → EnvironmentStands env → Comes env env
comes_self env h = record { same_setting = refl; grows = omega arith; stands = h }

pub comes_then : (a b c : Environment) → Comes a b → Comes b c → Comes a c
comes_then a b c h k = record { same_setting = k.same_setting ∙ h.same_setting; grows = omega (arith, h.grows, k.grows); stands = k.stands }

pub stays_comes : (a b : Environment) → EnvironmentStands a → Stays a b → Comes a b
stays_comes a b s h = record {
  same_setting = ap setting h.same;
  grows = h.grows;
  stands = record {
    proper = h.proper;
    open_scopes = subst (λ n. 0 < n) (ap (λ e. length e.scopes) (sym h.same)) s.open_scopes;
    begun_fit = subst (BegunFit b.headings) (ap (λ e. e.begun) (sym h.same)) (begun_grown a.headings b.headings a.begun h.grows s.begun_fit);
  };
}

pub framed_comes : (env after : Environment) → frame after ≡ frame env → Proper after → EnvironmentStands env → Comes env after
framed_comes env after e p s = record {
  same_setting = ap (λ f. record { kinds_of = f.kinds_of; blocks_round = f.blocks_round }) e;
  grows = omega (arith, ap (λ f. length f.headings_known) e);
  stands = record {
    proper = p;
    open_scopes = subst (λ n. 0 < n) (as_many_scopes env.scopes after.scopes (ap (λ f. f.kinds_of) (sym e))) s.open_scopes;
    begun_fit = subst (λ f. BegunFit f.headings_known f.begun_here) (sym e) s.begun_fit;
  };
}

-- what declarations without a body are answered
pub framed_answer : {B : Type 0} (judge : Environment → Judged Environment) (env after : Environment) (r : Result B StaticFault) →
    ((f : DeclarationFrame) (e : Environment) → frame e ≡ f → Gives (λ e. frame e ≡ f) (judge e)) → JudgedAnswers (λ _. after) r (judge env) →
    OnOk r (Proper after) → EnvironmentStands env → OnOk r (Comes env after)
framed_answer judge env after (Ok b) framed e p s =
    framed_comes env after (subst (Gives (λ e. frame e ≡ frame env)) e (framed (frame env) env refl)) p s
framed_answer judge env after (Err f) framed e p s = tt

-- ---- ends of bodies

pub finish_comes : {B : Type 0} (env b after : Environment) (n line : ℕ) (s : Acts) (r : Result B StaticFault) → EnvironmentStands env → Stays env b →
    JudgedAnswers (λ _. after) r (close_block n s line b) → OnOk r (Comes env after)
finish_comes env b after n line s (Ok u) st h e =
    stays_comes env after st (stays_then env b after h (subst (Gives (Stays b)) e (close_stays n s line b h.proper)))
finish_comes env b after n line s (Err f) st h e = tt

pub module_finish_comes : {B : Type 0} (env b after : Environment) (n : ℕ) (s : Acts) (r : Result B StaticFault) → EnvironmentStands env → Stays env b →
    JudgedAnswers (λ _. after) r (gives (add_statements n s b)) → OnOk r (Comes env after)
module_finish_comes env b after n s (Ok u) st h e =
    stays_comes env after st (stays_then env b after h (subst (Gives (Stays b)) e (add_stays n s b h.proper)))
module_finish_comes env b after n s (Err f) st h e = tt

pub given : {A : Type 0} (a b : A) → gives a ≡ gives b → a ≡ b
given a b e = cc
