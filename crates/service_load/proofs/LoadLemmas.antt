-- A load, from one event to the next.
use Rattle.std.proofs.Common.{◌≡◌, ◌∙◌, ℕ, zero, suc, ◌+◌, ◌<◌, ◌≤◌, List, [], ◌∷◌, ◌++◌, length, take, get_or, refl, sym, ap, subst, arith, append_assoc, append-nil}
use Rattle.std.proofs.Math.Seq.{take-suc}
use Rattle.std.specs.Prelude.{Result, Ok, Err}
use Rattle.desk.specs.Desks.{Comes, Event, Take, next, opening}
use Rattle.desk.specs.Runs.{after, gave, ops_of, op_in}
use Rattle.desk.specs.declared.desk_state.DeskState.{DeskState}
use Rattle.desk.specs.declared.submitter.Labelled.{Labelled}
use Rattle.nop_types.specs.Given.{Given}
use Rattle.service_load.specs.Loads.{Follows, HasRun, IsLoad, Keeps, Plan, answer_count, answers, first_ops, op_at}
use Rattle.service_load.specs.declared.load.Load.{Load}

one_up : (n : ℕ) → suc n ≡ n + 1
one_up n = omega arith

-- ---- one event more

after_more : (d : DeskState) (es : List Event) (e : Event) → after d (es ++ e ∷ []) ≡ (next (after d es) e).0
after_more d [] e = refl
after_more d (x ∷ es) e = after_more (next d x).0 es e

gave_more : (d : DeskState) (es : List Event) (e : Event) → gave d (es ++ e ∷ []) ≡ gave d es ++ (next (after d es) e).1
gave_more d [] e = append-nil (next d e).1
gave_more d (x ∷ es) e =
    ap (λ (told : List Labelled). (next d x).1 ++ told) (gave_more (next d x).0 es e)
    ∙ sym (append_assoc (next d x).1 (gave (next d x).0 es) (next (after (next d x).0 es) e).1)

ops_more : (es : List Event) (e : Event) → ops_of (es ++ e ∷ []) ≡ ops_of es ++ op_in e
ops_more [] e = append-nil (op_in e)
ops_more (x ∷ es) e =
    ap (λ (ops : List (List ℕ)). op_in x ++ ops) (ops_more es e) ∙ sym (append_assoc (op_in x) (ops_of es) (op_in e))

count_both : (xs ys : List Labelled) → answer_count (xs ++ ys) ≡ answer_count xs + answer_count ys
count_both [] ys = omega arith
count_both (x ∷ xs) ys =
    let rest = count_both xs ys in
    omega (arith, rest)

count_one : (told : List Labelled) (i : ℕ) (one : Labelled) → i < length told → one ≡ get_or told i one
    → answer_count (take (i + 1) told) ≡ answer_count (take i told) + answers one.ticket one.out
count_one told i one some is =
    let upto : take (i + 1) told ≡ take i told ++ one ∷ [] =
    subst (λ (n : ℕ). take n told ≡ take i told ++ one ∷ []) (one_up i)
    (take-suc told i one some ∙ ap (λ (g : Labelled). take i told ++ g ∷ []) (sym is)) in
    let both = ap answer_count upto ∙ count_both (take i told) (one ∷ []) in
    omega (arith, both)

-- one more was noted
pub noted : (told : List Labelled) (i n m k : ℕ) (one : Labelled) → i < length told → one ≡ get_or told i one
    → m ≡ n + answer_count (take i told) → k ≡ m + answers one.ticket one.out → k ≡ n + answer_count (take (i + 1) told)
noted told i n m k one some is before more =
    let next = count_one told i one some is in
    omega (arith, before, more, next)

-- ---- what is taken

module _ (plan : Plan) where
  abbrev start : DeskState
  start = opening plan.config plan.first plan.clients

  run_on : (d : DeskState) (n : ℕ) (e : Event) (run : HasRun plan d n)
      → ops_of run.events ++ op_in e ≡ first_ops plan.ops (next d e).0.taken
      → HasRun plan (next d e).0 (n + answer_count (next d e).1)
  run_on d n e run firsts =
      let state = ap (λ (x : DeskState). (next x e).0) run.is in
      let told = ap (λ (x : DeskState). answer_count (next x e).1) run.is in
      let all = ap answer_count (gave_more start run.events e) ∙ count_both (gave start run.events) (next (after start run.events) e).1 in
      record {
        events = run.events ++ e ∷ [];
        is = state ∙ sym (after_more start run.events e);
        took = ops_more run.events e ∙ firsts;
        answered = omega (arith, run.answered, told, all);
      }

  one_op : (d : DeskState) (n : ℕ) (op : List ℕ) (run : HasRun plan d n) → op ≡ op_at plan.ops d.taken
      → ops_of run.events ++ op_in (Take op) ≡ first_ops plan.ops (next d (Take op)).0.taken
  one_op d n op run is =
      ap (λ (ops : List (List ℕ)). ops ++ op ∷ []) run.took
      ∙ ap (λ (o : List ℕ). first_ops plan.ops d.taken ++ o ∷ []) is
      ∙ ap (first_ops plan.ops) (one_up d.taken)

  no_op : (d : DeskState) (n i : ℕ) (x : Given) (run : HasRun plan d n)
      → ops_of run.events ++ op_in (Comes i x) ≡ first_ops plan.ops (next d (Comes i x)).0.taken
  no_op d n i x run = append-nil (ops_of run.events) ∙ run.took

-- what is known of a load that took a step
pub record Stepped (old new : Load) (e : Event) (told : List Labelled) : Type 0 where
  pub pattern : new.pattern ≡ old.pattern
  pub count : new.count ≡ old.count
  pub state : new.desk.state ≡ (next old.desk.state e).0
  pub tells : told ≡ (next old.desk.state e).1
  pub noted : length new.tally.times.items ≡ length old.tally.times.items + answer_count told

step_on : (plan : Plan) (old new : Load) (e : Event) (told : List Labelled) → Stepped old new e told → (is : IsLoad plan old)
    → ops_of is.run.events ++ op_in e ≡ first_ops plan.ops (next old.desk.state e).0.taken
    → (next old.desk.state e).0.taken ≤ plan.count
    → IsLoad plan new
step_on plan old new e told s is firsts within =
    let run = run_on plan old.desk.state (length old.tally.times.items) e is.run firsts in
    let counted : length new.tally.times.items ≡ length old.tally.times.items + answer_count (next old.desk.state e).1 =
    s.noted ∙ ap (λ (t : List Labelled). length old.tally.times.items + answer_count t) s.tells in
    record {
      ops = s.pattern ∙ is.ops;
      count = s.count ∙ is.count;
      run = subst (λ (n : ℕ). HasRun plan new.desk.state n) (sym counted)
          (subst (λ (d : DeskState). HasRun plan d (length old.tally.times.items + answer_count (next old.desk.state e).1)) (sym s.state) run);
      within = subst (λ (d : DeskState). d.taken ≤ plan.count) (sym s.state) within;
    }

pub opens : (plan : Plan) (l : Load) → l.pattern ≡ plan.ops → l.count ≡ plan.count
    → l.desk.state ≡ opening plan.config plan.first plan.clients → l.tally.times.items ≡ [] → IsLoad plan l
opens plan l ops count state none = record {
  ops = ops;
  count = count;
  run =
      let is_none : length l.tally.times.items ≡ 0 = ap length none in
      let taken : l.desk.state.taken ≡ 0 = ap (λ (d : DeskState). d.taken) state in
      record {
        events = [];
        is = state;
        took = sym (ap (first_ops plan.ops) taken);
        answered = is_none;
      };
  within = let taken : l.desk.state.taken ≡ 0 = ap (λ (d : DeskState). d.taken) state in omega (arith, taken);
}

pub took : (old new : Load) (op : List ℕ) (told : List Labelled) → old.desk.state.taken < old.count
    → op ≡ op_at old.pattern old.desk.state.taken → new.pattern ≡ old.pattern → new.count ≡ old.count
    → new.desk.state ≡ (next old.desk.state (Take op)).0 → told ≡ (next old.desk.state (Take op)).1
    → length new.tally.times.items ≡ length old.tally.times.items + answer_count told
    → (plan : Plan) → IsLoad plan old → IsLoad plan new
took old new op told some is pattern count state tells noted plan load =
    let s : Stepped old new (Take op) told =
    record { pattern = pattern; count = count; state = state; tells = tells; noted = noted } in
    let at : op ≡ op_at plan.ops old.desk.state.taken = is ∙ ap (λ (ops : List (List ℕ)). op_at ops old.desk.state.taken) load.ops in
    step_on plan old new (Take op) told s load
    (one_op plan old.desk.state (length old.tally.times.items) op load.run at) (omega (arith, some, load.count))

pub came : (old new : Load) (i : ℕ) (x : Given) (told : List Labelled) → new.pattern ≡ old.pattern → new.count ≡ old.count
    → new.desk.state ≡ (next old.desk.state (Comes i x)).0 → told ≡ (next old.desk.state (Comes i x)).1
    → length new.tally.times.items ≡ length old.tally.times.items + answer_count told
    → (plan : Plan) → IsLoad plan old → IsLoad plan new
came old new i x told pattern count state tells noted plan load =
    let s : Stepped old new (Comes i x) told =
    record { pattern = pattern; count = count; state = state; tells = tells; noted = noted } in
    step_on plan old new (Comes i x) told s load
    (no_op plan old.desk.state (length old.tally.times.items) i x load.run) load.within

-- ---- one call after another

pub follows_same : (l : Load) → Follows l l
follows_same l plan is = is

pub follows_then : (old mid new : Load) → Follows old mid → Follows mid new → Follows old new
follows_then old mid new first second plan is = second plan (first plan is)

pub same_then : (old mid new : Load) → Follows old mid → new ≡ mid → Follows old new
same_then old mid new first same plan is = subst (IsLoad plan) (sym same) (first plan is)

pub then_same : (old mid new : Load) → mid ≡ old → Follows mid new → Follows old new
then_same old mid new same second plan is = second plan (subst (IsLoad plan) (sym same) is)

pub keeps_then : {T E : Type 0} (old mid new : Load) (r : Result T E) → Follows old mid → Keeps mid new r → Keeps old new r
keeps_then old mid new (Ok t) first second = follows_then old mid new first second
keeps_then old mid new (Err e) first second = tt

pub ruleset keeps_all = (follows_same, follows_then, same_then, then_same, keeps_then)
