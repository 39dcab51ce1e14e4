-- A client's accept lines and answer lines, whatever its link tells.
use Rattle.std.proofs.Common.{◌≡◌, ◌⊎◌, ℕ, ◌<◌, Bool, true, false, List, [], ◌∷◌, ◌++◌, Option, Some, None, IsSome, refl, sym, ap, ◌∙◌}
use Rattle.std.proofs.Common.{length, inl, inr}
use Rattle.std.specs.List.{AllByRecursion}
use Rattle.client_quorum.specs.ClientSteps as requests
use Rattle.client_quorum.specs.ClientSteps.{can_submit, first_of, submit_waiting_if}
use Rattle.client_quorum.specs.Core as client
use Rattle.client_quorum.specs.Core.{HasNoRead}
use Rattle.client_reads.specs.ReadSteps as reads
use Rattle.client_quorum.specs.Runs.{accept_count, after, gave, HasNoSubmit}
use Rattle.client_quorum.specs.declared.state.ClientState.{ClientState}
use Rattle.client_quorum.proofs.Alone.{is_done_alone, outs_alone}
use Rattle.client_quorum.proofs.Counts.{all_accepted, some_open}
use Rattle.command_line.specs.declared.command.Command.{Command}
use Rattle.command_line.specs.declared.command.Command.TheVariants.{Replay, Client, Read}
use Rattle.command_line.specs.declared.command.Site.{Site}
use Rattle.fresh_reads.specs.FreshReads as fresh
use Rattle.fresh_reads.specs.FreshReads.{fresh_count, FreshRead}
use Rattle.fresh_reads.proofs.FreshAnswers.{one_fresh, none_fresh}
use Rattle.nop_types.specs.Meaning.{Meaning}
use Rattle.nop_types.specs.Given.{Given, Packet, Ticked}
use Rattle.nop_types.specs.Given as givens
use Rattle.nop_types.specs.declared.input.Tick.TheVariants as ticks
use Rattle.nop_types.specs.declared.output.Actor.TheVariants as actors
use Rattle.nop_types.specs.declared.output.Out.{Out}
use Rattle.one_box.specs.Showing.{LinkView}
use Rattle.trace_text.specs.Traces.{taken}
use Rattle.udp_node.specs.Folding.{folded, steps_of, AllOutside}
use Rattle.udp_node.proofs.FoldLemmas.{outs_of_steps}
use Rattle.commands.specs.Nodes.{LastLine, PortsView, NodeEnds, end_status}
use Rattle.commands.specs.Tasks.{CommandEnds, client_task, read_task, address_of, WroteAccepts, AnswersOps, WroteAnswers, AnswersReads}
use Rattle.commands.specs.Tasks.{ClientAnswers, IsTold, Wrote, outs_of}
use Rattle.commands.specs.declared.status.Status.{Status}
use Rattle.commands.specs.declared.status.Status.TheVariants as statuses

free : (xs : List Given) → AllOutside xs → HasNoSubmit xs
free [] out = tt
free (Packet bytes ∷ xs) out = free xs out
free (Ticked tick ∷ xs) out = free xs out
free _ out = absurd out

no_reads : (xs : List Given) → AllOutside xs → HasNoRead xs
no_reads [] out = tt
no_reads (Packet bytes ∷ xs) out = (tt, no_reads xs out)
no_reads (Ticked tick ∷ xs) out = (tt, no_reads xs out)
no_reads _ out = absurd out

folded_is : (s : client.Client) (xs : List Given) → folded client.next s xs ≡ (client.after s xs, client.gave s xs)
folded_is s [] = refl
folded_is s (x ∷ xs) = ap (λ (r : client.Client × List Out). (r.0, (client.next s x).1 ++ r.1)) (folded_is (client.next s x).0 xs)

was_done : (b : Bool) → statuses.Done ≡ end_status true b → b ≡ true
was_done true is = refl
was_done false is = absurd cc

was_open : (b : Bool) → statuses.Unanswered ≡ end_status true b → b ≡ false
was_open true is = absurd cc
was_open false is = refl

-- ---- the lines of steps in a trace

-- a tick Next that submits nothing gives nothing
next_told : (b : Bool) (op : Option (List ℕ)) (s : ClientState) → first_of s.waiting ≡ op
    → ((submit_waiting_if b s).1 ++ [] ≡ []) ⊎ IsSome (taken (Ticked ticks.Next) ((submit_waiting_if b s).1 ++ []))
next_told false op s is = inl refl
next_told true None s is = rw is (inl refl)
next_told true (Some op) s is = rw is (inr refl)

told : (c : client.Client) (x : Given) → IsTold (record { given = x; outs = (client.next c x).1 })
unfolding requests.next reads.next
told c (Ticked ticks.Next) = next_told (can_submit c.requests) (first_of c.requests.waiting) c.requests refl
told c x = inr refl

all_told : (c : client.Client) (xs : List Given) → AllByRecursion IsTold (steps_of client.next c xs)
all_told c [] = tt
all_told c (x ∷ xs) = (told c x, all_told (client.next c x).0 xs)

module _ (id : ℕ) (site : Site) (ops : List (List ℕ)) where
  abbrev start : client.Client
  start = client.opening site.config id ops

  module _ (inputs : List Given) (outside : AllOutside inputs) where
    done_is : client.is_done (folded client.next start inputs).0 ≡ requests.is_done (after start.requests inputs)
    done_is = ap (λ (r : client.Client × List Out). client.is_done r.0) (folded_is start inputs)
        ∙ is_done_alone site.config id ops inputs (no_reads inputs outside)

    outs_are : outs_of (steps_of client.next start inputs) ≡ gave start.requests inputs
    outs_are = sym (outs_of_steps client.next start inputs)
        ∙ ap (λ (r : client.Client × List Out). r.1) (folded_is start inputs)
        ∙ outs_alone site.config id ops inputs (no_reads inputs outside)

  wrote : (losses losses_now : ℕ) (s : Status) (h i : Option (List ℕ)) (l : LastLine (client_task id site ops) losses losses_now s h i)
      → Wrote site.trace (address_of site (actors.Client id)) (steps_of client.next start l.inputs) h i
  wrote losses losses_now s h i l = record { taken = l.taken; lost = l.lost; told = all_told start l.inputs; line = l.line }

  accepted : (losses losses_now : ℕ) (h i : Option (List ℕ)) → LastLine (client_task id site ops) losses losses_now statuses.Done h i
      → WroteAccepts site.trace (address_of site (actors.Client id)) (length ops) h i
  accepted losses losses_now h i l =
      let done : requests.is_done (after start.requests l.inputs) ≡ true =
      sym (done_is l.inputs l.outside) ∙ was_done _ l.ends in
      let count = all_accepted site.config id ops l.inputs (free l.inputs l.outside) done in
      record {
        steps = steps_of client.next start l.inputs;
        accepts = ap accept_count (outs_are l.inputs l.outside) ∙ count;
        wrote = wrote losses losses_now statuses.Done h i l;
      }

  lacking : (losses losses_now : ℕ) (h i : Option (List ℕ)) → LastLine (client_task id site ops) losses losses_now statuses.Unanswered h i
      → (fewer : ℕ) × (fewer < length ops) × WroteAccepts site.trace (address_of site (actors.Client id)) fewer h i
  lacking losses losses_now h i l =
      let open_ : requests.is_done (after start.requests l.inputs) ≡ false =
      sym (done_is l.inputs l.outside) ∙ was_open _ l.ends in
      let count = some_open site.config id ops l.inputs (free l.inputs l.outside) open_ in (
        accept_count (gave start.requests l.inputs),
        count,
        record {
          steps = steps_of client.next start l.inputs;
          accepts = ap accept_count (outs_are l.inputs l.outside);
          wrote = wrote losses losses_now statuses.Unanswered h i l;
        },
      )

  module _ {L : Type 0} (w : LinkView L) (p : PortsView L) (values : Option (List ℕ)) (h i : Option (List ℕ)) where
    answers_ops : (s : Status) → NodeEnds (client_task id site ops) w p values s h i
        → AnswersOps site.trace (address_of site (actors.Client id)) (length ops) s h i
    answers_ops statuses.Done (inl u) = absurd u.status
    answers_ops statuses.Done (inr a) = accepted 0 (w.losses a.link) h i a.last
    answers_ops statuses.Unanswered (inl u) = absurd u.status
    answers_ops statuses.Unanswered (inr a) = lacking 0 (w.losses a.link) h i a.last
    answers_ops _ ends = tt

fresh_folded : (s : FreshRead) (xs : List Given) → folded fresh.next s xs ≡ (fresh.after s xs, fresh.gave s xs)
fresh_folded s [] = refl
fresh_folded s (x ∷ xs) = ap (λ (r : FreshRead × List Out). (r.0, (fresh.next s x).1 ++ r.1)) (fresh_folded (fresh.next s x).0 xs)

turned_next : (again : Bool) (observer : ℕ) (key : List ℕ) → fresh.turned again observer key (Ticked ticks.Next) ≡ Ticked ticks.Next
turned_next true observer key = refl
turned_next false observer key = refl

fresh_told : (s : FreshRead) (x : Given) → IsTold (record { given = x; outs = (fresh.next s x).1 })
fresh_told s (Ticked ticks.Next) =
    rw (turned_next (fresh.asks_again s) s.observer s.key) (told s.client (Ticked ticks.Next))
fresh_told s x = inr refl

all_fresh_told : (s : FreshRead) (xs : List Given) → AllByRecursion IsTold (steps_of fresh.next s xs)
all_fresh_told s [] = tt
all_fresh_told s (x ∷ xs) = (fresh_told s x, all_fresh_told (fresh.next s x).0 xs)

module _ (id : ℕ) (site : Site) (observer : ℕ) (key : List ℕ) (least : ℕ) where
  abbrev reader : FreshRead
  reader = fresh.opening site.config id observer key least

  module _ (rest : List Given) where
    abbrev all : List Given
    all = givens.Read observer key ∷ rest

    read_done_is : fresh.is_done (folded fresh.next reader all).0 ≡ fresh.is_done (fresh.after reader all)
    read_done_is = ap (λ (r : FreshRead × List Out). fresh.is_done r.0) (fresh_folded reader all)

    answers_are : fresh_count least (outs_of (steps_of fresh.next reader all)) ≡ fresh_count least (fresh.gave reader all)
    answers_are = ap (fresh_count least) (sym (outs_of_steps fresh.next reader all))
        ∙ ap (λ (r : FreshRead × List Out). fresh_count least r.1) (fresh_folded reader all)

  read_wrote : (losses losses_now : ℕ) (s : Status) (h i : Option (List ℕ))
      (l : LastLine (read_task id site observer key least) losses losses_now s h i)
      → Wrote site.trace (address_of site (actors.Client id)) (steps_of fresh.next reader (all l.inputs)) h i
  read_wrote losses losses_now s h i l =
      record { taken = l.taken; lost = l.lost; told = all_fresh_told reader (all l.inputs); line = l.line }

  answered : (losses losses_now : ℕ) (h i : Option (List ℕ))
      → LastLine (read_task id site observer key least) losses losses_now statuses.Done h i
      → WroteAnswers site.trace (address_of site (actors.Client id)) least 1 h i
  answered losses losses_now h i l =
      let done : fresh.is_done (fresh.after reader (all l.inputs)) ≡ true = sym (read_done_is l.inputs) ∙ was_done _ l.ends in
      let count = one_fresh site.config id observer key least l.inputs (no_reads l.inputs l.outside) done in
      record {
        steps = steps_of fresh.next reader (all l.inputs);
        answers = answers_are l.inputs ∙ count;
        wrote = read_wrote losses losses_now statuses.Done h i l;
      }

  unanswered : (losses losses_now : ℕ) (h i : Option (List ℕ))
      → LastLine (read_task id site observer key least) losses losses_now statuses.Unanswered h i
      → WroteAnswers site.trace (address_of site (actors.Client id)) least 0 h i
  unanswered losses losses_now h i l =
      let open_ : fresh.is_done (fresh.after reader (all l.inputs)) ≡ false = sym (read_done_is l.inputs) ∙ was_open _ l.ends in
      let count = none_fresh site.config id observer key least l.inputs (no_reads l.inputs l.outside) open_ in
      record {
        steps = steps_of fresh.next reader (all l.inputs);
        answers = answers_are l.inputs ∙ count;
        wrote = read_wrote losses losses_now statuses.Unanswered h i l;
      }

  module _ {L : Type 0} (w : LinkView L) (p : PortsView L) (values : Option (List ℕ)) (h i : Option (List ℕ)) where
    answers_reads : (s : Status) → NodeEnds (read_task id site observer key least) w p values s h i
        → AnswersReads site.trace (address_of site (actors.Client id)) least s h i
    answers_reads statuses.Done (inl u) = absurd u.status
    answers_reads statuses.Done (inr a) = answered 0 (w.losses a.link) h i a.last
    answers_reads statuses.Unanswered (inl u) = absurd u.status
    answers_reads statuses.Unanswered (inr a) = unanswered 0 (w.losses a.link) h i a.last
    answers_reads _ ends = tt

module _ {S L : Type 0} (m : Meaning S) (w : LinkView L) (p : PortsView L) (values : Option (List ℕ)) where
  pub client_answers : (c : Option Command) (s : Status) (h i : Option (List ℕ)) → CommandEnds m c w p values s h i → ClientAnswers c s h i
  client_answers (Some (Client id site ops)) s h i ends = answers_ops id site ops w p values h i s ends
  client_answers (Some (Read id site observer key least)) s h i ends = answers_reads id site observer key least w p values h i s ends
  client_answers _ s h i ends = tt

pub no_answers : (c : Option Command) (h : Option (List ℕ)) → ClientAnswers c statuses.NoMemory h h
no_answers None h = tt
no_answers (Some Replay) h = tt
no_answers (Some _) h = tt

-- words that ask for no command
pub none_answers : (c : Option Command) (s : Status) (h i : Option (List ℕ)) → c ≡ None → ClientAnswers c s h i
none_answers c s h i is = rw is tt
