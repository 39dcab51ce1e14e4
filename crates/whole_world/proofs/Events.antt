-- Lists of events: what they pass, and each time before.
use Rattle.std.proofs.Common.{◌≡◌, ℕ, refl, subst, ◌∙◌, List, [], ◌∷◌, ◌++◌}
use Rattle.nop_types.specs.Configuration.{Configuration}
use Rattle.nop_types.specs.Meaning.{Meaning}
use Rattle.nop_types.specs.declared.output.Actor.{Actor}
use Rattle.protocol.specs.Conf.{Conf}
use Rattle.protocol.specs.Runs.{Move, run, MayAll}
use Rattle.refinement.proofs.Runs.{run-append, may_all-append}
use Rattle.whole_world.specs.Whole.{Brings, whole_step}
use Rattle.whole_world.specs.Passed.{Passed, passes, passed_from}
use Rattle.whole_world.specs.Safe.{BringsFits, AllFit, Leads}
use Rattle.whole_world.proofs.At.{At, Later}

module _ {S : Type 0} (m : Meaning S) (f : ℕ) (config : Configuration) where
  leads_nowhere : (c : Conf) → Leads m f c c
  leads_nowhere c = record { moves = []; may = tt; ends = refl }

  leads_then : (c : Conf) (xs : List Move) (d : Conf) → MayAll m f c xs → Leads m f (run m f c xs) d → Leads m f c d
  leads_then c xs d may on = record {
    moves = xs ++ on.moves;
    may = may_all-append m f c xs on.moves may on.may;
    ends = run-append m f c xs on.moves ∙ on.ends;
  }

  -- what some events passed, and moves from there to the last configuration
  pub record Before (p : Passed) (prefix : List (Actor × Brings)) (last : Conf) : Type 0 where
    pub conf : Conf
    pub at : At m f config (passed_from m p prefix) conf
    pub leads : Leads m f conf last

  -- moves lead to what the events pass, by way of what each of their fronts passes
  pub record Reached (p : Passed) (c : Conf) (es : List (Actor × Brings)) : Type 0 where
    pub last : Conf
    pub at : At m f config (passed_from m p es) last
    pub leads : Leads m f c last
    pub before : (prefix rest : List (Actor × Brings)) → es ≡ prefix ++ rest → Before p prefix last

  -- one event leads on
  abbrev pub StepsLead : Type 0
  StepsLead = (p : Passed) (c : Conf) (a : Actor) (b : Brings) → At m f config p c → BringsFits b
      → Later m f config c (passes p (whole_step m p.world a b))

  nothing_reached : (p : Passed) (c : Conf) → At m f config p c → Reached p c []
  nothing_reached p c at = record { last = c; at = at; leads = leads_nowhere c; before = λ prefix rest split. by prefix rest split }
    where
      by : (prefix rest : List (Actor × Brings)) → [] ≡ prefix ++ rest → Before p prefix c
      by [] rest split = record { conf = c; at = at; leads = leads_nowhere c }
      by (y ∷ prefix) rest split = absurd cc

  one_reached : (x : Actor × Brings) (es : List (Actor × Brings)) (p : Passed) (c : Conf) → At m f config p c
      → (one : Later m f config c (passes p (whole_step m p.world x.0 x.1)))
      → Reached (passes p (whole_step m p.world x.0 x.1)) (run m f c one.moves) es → Reached p c (x ∷ es)
  one_reached x es p c at one on = record {
    last = on.last;
    at = on.at;
    leads = all;
    before = λ prefix rest split. by prefix rest split;
  }
    where
      all : Leads m f c on.last
      all = leads_then c one.moves on.last one.may on.leads

      by : (prefix rest : List (Actor × Brings)) → x ∷ es ≡ prefix ++ rest → Before p prefix on.last
      by [] rest split = record { conf = c; at = at; leads = all }
      by (y ∷ prefix) rest split =
          let same : x ≡ y = cc in
          let others : es ≡ prefix ++ rest = cc in
          let t = on.before prefix rest others in
          record {
            conf = t.conf;
            at = subst (λ (z : Actor × Brings). At m f config (passed_from m p (z ∷ prefix)) t.conf) same t.at;
            leads = t.leads;
          }

  pub events_reach : StepsLead → (es : List (Actor × Brings)) (p : Passed) (c : Conf) → AllFit es → At m f config p c → Reached p c es
  events_reach lead [] p c fits at = nothing_reached p c at
  events_reach lead (x ∷ es) p c fits at =
      let one = lead p c x.0 x.1 at fits.0 in
      one_reached x es p c at one
      (events_reach lead es (passes p (whole_step m p.world x.0 x.1)) (run m f c one.moves) fits.1 one.at)
