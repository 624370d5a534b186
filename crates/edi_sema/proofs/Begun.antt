-- The headings of procedures, also of split ones.
use Rattle.std.proofs.Common.{◌≡◌, ℕ, suc, ◌<◌, Bool, true, false, List, [], ◌∷◌, ◌++◌, length, drop, if◌then◌else◌, Option, Some, None, option_map}
use Rattle.std.proofs.Common.{unwrap_or, IfSome, Result, Ok, Err, OnOk, refl, ap, sym, ◌∙◌, subst, arith}
use Rattle.std.proofs.lemmas.List.{length-append}
use Rattle.std.proofs.lemmas.List.Elements.{All-push}
use Rattle.std.specs.Str.{bytes_eq}
use Rattle.edi_scope.specs.Scope.{outside}
use Rattle.edi_scope.specs.declared.entity.Entity.TheVariants as entity
use Rattle.edi_tree.specs.declared.headings.Heading as code_heading
use Rattle.edi_tree.specs.declared.headings.Param.TheViews.{out-Heading}
use Rattle.edi_tree.specs.declared.headings.Param.TheFolds.{fold_out-Heading}
use Rattle.edi_tree.specs.declared.names.Name.{Name}
use Rattle.edi_tree.specs.Tree as text
use Rattle.edi_tree.specs.View.{heading_of, params_of, param_step, heading_step}
use Rattle.edi_unit.specs.declared.units.BlockKind.{BlockKind}
use Rattle.edi_unit.specs.Headings.{Heading, heading_result}
use Rattle.edi_static.specs.declared.faults.StaticFault.{StaticFault}
use Rattle.edi_static.specs.Judged.{Judged, gives, ◌>>=◌}
use Rattle.edi_static.specs.Environment.{Begun, Environment, declare}
use Rattle.edi_static.specs.Headings.{Headed, leave, round, own_name, heading_parts}
use Rattle.edi_static.specs.Declarations.{kind_of, with_heading, begun_named, completes, post_export, block_of, begin_procedure, begin_post, pre_decl}
use Rattle.edi_static.specs.Answers.{JudgedAnswers}
use Rattle.edi_static.specs.Proper.{Proper}
use Rattle.edi_static.proofs.Judging.{Gives, bind}
use Rattle.edi_static.proofs.Proper.{around_proper}
use Rattle.edi_sema.specs.Frames.{kinds, frame, BegunFit, EnvironmentStands, Comes, HeadingBegins}
use Rattle.edi_sema.specs.Splits.{block_named, completes_block, post_block, with_begun}
use Rattle.edi_sema.proofs.Framed.{FramedHeaded, heading_framed, declare_framed}
use Rattle.edi_sema.proofs.Staying.{outside_kinds, as_many_scopes, begun_grown, given}
use Rattle.edi_sema.proofs.Opening.{Inner, begins}

pub heading_seen : (x : code_heading.Heading) → heading_of x ≡ text.heading (out-Heading x).name (params_of (out-Heading x).params) (out-Heading x).result
heading_seen x = fold_out-Heading text.Param text.Heading param_step heading_step x

pub name_seen : (x : code_heading.Heading) → own_name (heading_of x) ≡ (out-Heading x).name
name_seen x = ap own_name (heading_seen x)

-- the parts of a heading leave the headings of blocks as they were
pub headings_kept : (n : ℕ) (h : text.Heading) (env : Environment) (headed : Headed) → heading_parts n h env ≡ gives headed → headed.env.headings ≡ env.headings
headings_kept n h env headed e = ap (λ f. f.headings_known) (subst (Gives (FramedHeaded (frame env))) e (heading_framed n h (frame env) env refl))

-- what is known inside a heading
pub inner_answer : {B : Type 0} (env after : Environment) (r : Result B StaticFault) (m : Judged Environment) → JudgedAnswers (λ _. after) r m →
    Gives (Inner env) m → OnOk r (Proper after) → OnOk r (HeadingBegins env after)
inner_answer env after (Ok b) m e g p = begins env after (subst (Gives (Inner env)) e g) p
inner_answer env after (Err f) m e g p = tt

begin_stated : (m : Bool) (h : text.Heading) (name : Name) (env : Environment) (headed : Headed) (kind : BlockKind) (n : ℕ) → n ≡ length env.blocks
    → name ≡ own_name h →
    heading_parts n h env ≡ gives headed → kind ≡ kind_of (heading_result headed.asks) →
    begin_procedure m h env ≡ round (declare m name (entity.Procedure n)) (with_heading kind headed)
begin_stated m h name env headed kind n e i stated k =
    ap (λ n. heading_parts n h env >>= λ headed. round (declare m (own_name h) (entity.Procedure n))
    (with_heading (kind_of (heading_result headed.asks)) headed)) (sym e)
    ∙ (ap (λ j. j >>= λ headed. round (declare m (own_name h) (entity.Procedure n)) (with_heading (kind_of (heading_result headed.asks)) headed)) stated
    ∙ (ap (λ k. round (declare m (own_name h) (entity.Procedure n)) (with_heading k headed)) (sym k)
    ∙ ap (λ name. round (declare m name (entity.Procedure n)) (with_heading kind headed)) (sym i)))

-- a procedure that begins is answered by what its parts are answered
pub begin_answered : {B : Type 0} (m : Bool) (h : text.Heading) (name : Name) (env after : Environment) (headed : Headed) (kind : BlockKind) (n : ℕ)
    (r : Result B StaticFault) → gives (length env.blocks) ≡ gives n → name ≡ own_name h → heading_parts n h env ≡ gives headed →
    kind ≡ kind_of (heading_result headed.asks) →
    JudgedAnswers (λ _. after) r (round (declare m name (entity.Procedure n)) (with_heading kind headed)) → JudgedAnswers (λ _. after) r (begin_procedure m h env)
begin_answered m h name env after headed kind n r e i stated k answered =
    let number : n ≡ length env.blocks = sym (given (length env.blocks) n e) in
    subst (JudgedAnswers (λ _. after) r) (sym (begin_stated m h name env headed kind n number i stated k)) answered

-- ---- split procedures

fits_here : (hs : List Heading) (b : Begun) (bs : List Begun) (name : List ℕ) (n : ℕ) (same : Bool) → BegunFit hs (b ∷ bs) →
    (option_map (λ b. b.block) (if same then Some b else begun_named bs name)) ≡ Some n → (block_named bs name ≡ Some n → n < length hs) → n < length hs
fits_here hs b bs name n true h e rest =
    let i : b.block ≡ n = cc in
    subst (λ n. n < length hs) i (h 0 b (omega arith))
fits_here hs b bs name n false h e rest = rest e

begun_fits : (hs : List Heading) (bs : List Begun) (name : List ℕ) (n : ℕ) → BegunFit hs bs → block_named bs name ≡ Some n → n < length hs
begun_fits hs [] name n h e = absurd (cc)
begun_fits hs (b ∷ bs) name n h e =
    fits_here hs b bs name n (bytes_eq b.name.text name) h e (begun_fits hs bs name n (λ i d lt. h (suc i) d (omega (arith, lt))))

pub found_block : (found : Option Begun) (env : Environment) → unwrap_or (option_map (λ b. b.block) found) (length env.blocks) ≡ block_of env found
found_block None env = refl
found_block (Some b) env = refl

-- a `post` of a procedure that is begun has the block of its `pre`
block_fits : (env : Environment) (hs : List Heading) (found : Option ℕ) (name : List ℕ) (n k : ℕ) → BegunFit env.headings env.begun → hs ≡ env.headings →
    found ≡ block_named env.begun name → n ≡ unwrap_or found k → IfSome found (λ b. n < length hs)
block_fits env hs None name n k h e f i = tt
block_fits env hs (Some b) name n k h e f i =
    subst (λ hs. n < length hs) (sym e) (subst (λ n. n < length env.headings) (sym i) (begun_fits env.headings env.begun name b h (sym f)))

pub post_fits : (h : text.Heading) (name : List ℕ) (env : Environment) (headed : Headed) (found : Option ℕ) (n : ℕ) → BegunFit env.headings env.begun →
    found ≡ block_named env.begun name → gives (unwrap_or found (length env.blocks)) ≡ gives n → heading_parts n h env ≡ gives headed →
    IfSome found (λ b. n < length headed.env.headings)
post_fits h name env headed found n begun f e stated =
    block_fits env headed.env.headings found name n (length env.blocks) begun (headings_kept n h env headed stated) f
    (sym (given (unwrap_or found (length env.blocks)) n e))

pub post_number : (h : text.Heading) (name : Name) (env : Environment) (found : Option ℕ) (n : ℕ) → name ≡ own_name h →
    found ≡ block_named env.begun name.text → gives (unwrap_or found (length env.blocks)) ≡ gives n → n ≡ post_block h env
post_number h name env found n i f e =
    sym (given (unwrap_or found (length env.blocks)) n e) ∙ (ap (λ found. unwrap_or found (length env.blocks)) (f ∙ ap (λ name. block_named env.begun name.text) i)
    ∙ found_block (begun_named env.begun (own_name h).text) env)

completes_same : (found : Option Begun) (name : Name) (headed : Headed) → completes found name headed ≡ completes_block (option_map (λ b. b.block) found) name
    headed.env headed.asks
completes_same None name headed = refl
completes_same (Some b) name headed = refl

post_stated : (m : Bool) (h : text.Heading) (name : Name) (env : Environment) (headed : Headed) (found : Option ℕ) (n : ℕ) → name ≡ own_name h →
    found ≡ block_named env.begun name.text → gives (unwrap_or found (length env.blocks)) ≡ gives n → heading_parts n h env ≡ gives headed →
    begin_post m h env ≡ (completes_block found name headed.env headed.asks >>= λ _. post_export m name n headed.env)
post_stated m h name env headed found n i f e stated =
    let b : block_of env (begun_named env.begun (own_name h).text) ≡ n = sym (post_number h name env found n i f e) in
    ap (λ n. heading_parts n h env >>= λ headed. completes (begun_named env.begun (own_name h).text) (own_name h) headed >>= λ _. post_export m (own_name h) n
    headed.env) b
    ∙ (ap (λ j. j >>= λ headed. completes (begun_named env.begun (own_name h).text) (own_name h) headed >>= λ _. post_export m (own_name h) n headed.env) stated
    ∙ (ap (λ j. j >>= λ _. post_export m (own_name h) n headed.env) (completes_same (begun_named env.begun (own_name h).text) (own_name h) headed
    ∙ ap (λ found. completes_block found (own_name h) headed.env headed.asks) (sym (f ∙ ap (λ name. block_named env.begun name.text) i)))
    ∙ ap (λ name. completes_block found name headed.env headed.asks >>= λ _. post_export m name n headed.env) (sym i)))

pub post_answered : {B : Type 0} (m : Bool) (h : text.Heading) (name : Name) (env after : Environment) (headed : Headed) (found : Option ℕ) (n : ℕ)
    (r : Result B StaticFault) → name ≡ own_name h → found ≡ block_named env.begun name.text → gives (unwrap_or found (length env.blocks)) ≡ gives n →
    heading_parts n h env ≡ gives headed →
    JudgedAnswers (λ _. after) r (completes_block found name headed.env headed.asks >>= λ _. post_export m name n headed.env) →
    JudgedAnswers (λ _. after) r (begin_post m h env)
post_answered m h name env after headed found n r i f e stated answered =
    subst (JudgedAnswers (λ _. after) r) (sym (post_stated m h name env headed found n i f e stated)) answered

-- ---- a `pre` alone

pub begin_more : (m : Bool) (h : text.Heading) (env : Environment) → Gives (λ e. length env.headings < length e.headings) (begin_procedure m h env)
begin_more m h env =
    let More : Environment → Type 0 = λ e. length env.headings < length e.headings in
    bind (FramedHeaded (frame env)) More (heading_parts (length env.blocks) h env) _ (heading_framed (length env.blocks) h (frame env) env refl) (λ headed k.
    let inside : Environment = with_heading (kind_of (heading_result headed.asks)) headed in
    bind (λ e. frame e ≡ frame (leave inside)) More (declare m (own_name h) (entity.Procedure (length env.blocks)) (leave inside)) _
    (declare_framed m (own_name h) (entity.Procedure (length env.blocks)) _ (leave inside) refl)
    (λ outer e. omega (arith, ap (λ f. length f.headings_known) e, ap (λ f. length f.headings_known) k, length-append headed.env.headings)))

pub begun_block : (m : Bool) (h : text.Heading) (env after : Environment) (n : ℕ) → begin_procedure m h env ≡ gives after → Proper env → n ≡ length env.blocks
    → n < length after.headings
begun_block m h env after n stated p e = omega (arith, subst (Gives (λ e. length env.headings < length e.headings)) stated (begin_more m h env), p.headings, e)

pub pre_comes : (env inside : Environment) (b : Begun) → EnvironmentStands env → HeadingBegins env inside → Proper (leave inside)
    → b.block < length inside.headings →
    Comes env (with_begun (inside.begun ++ b ∷ []) (leave inside))
pre_comes env inside b s h p lt =
    let ks : kinds (outside inside.scopes) ≡ kinds env.scopes = outside_kinds inside.scopes ∙ ap (drop 1) h.kinds_inside in
    record {
      same_setting = ap (λ ks. record { kinds_of = ks; blocks_round = inside.around }) ks ∙ ap (λ r. record { kinds_of = kinds env.scopes; blocks_round = r })
          h.around_same;
      grows = h.grows;
      stands = record {
        proper = around_proper inside.around (inside.begun ++ b ∷ []) (leave inside) p;
        open_scopes = subst (λ n. 0 < n) (as_many_scopes env.scopes (outside inside.scopes) (sym ks)) s.open_scopes;
        begun_fit =
            All-push (λ b. b.block < length inside.headings) inside.begun b
            (subst (BegunFit inside.headings) (sym h.begun_same) (begun_grown env.headings inside.headings env.begun h.grows s.begun_fit)) lt;
      };
    }

pub pre_stated : (m : Bool) (h : text.Heading) (name : Name) (env inside : Environment) (n : ℕ) → begin_procedure m h env ≡ gives inside → name ≡ own_name h
    → n ≡ length env.blocks →
    inside.begun ≡ env.begun → pre_decl m h env ≡ gives (with_begun (inside.begun ++ record { name = name; block = n } ∷ []) (leave inside))
pre_stated m h name env inside n stated i e b =
    ap (λ j. j >>= λ after. gives (record (leave after) { begun = env.begun ++ record { name = own_name h; block = length env.blocks } ∷ [] })) stated
    ∙ (ap (λ begun. gives (record (leave inside) { begun = begun ++ record { name = own_name h; block = length env.blocks } ∷ [] })) (sym b)
    ∙ (ap (λ name. gives (record (leave inside) { begun = inside.begun ++ record { name = name; block = length env.blocks } ∷ [] })) (sym i)
    ∙ ap (λ n. gives (record (leave inside) { begun = inside.begun ++ record { name = name; block = n } ∷ [] })) (sym e)))
