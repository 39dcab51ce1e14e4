-- A run of a node, its last line, and the ports that it ran over.
use Rattle.std.proofs.Common.{◌≡◌, ℕ, ◌≤◌, ◌+◌, min, List, [], ◌∷◌, ◌++◌, Bool, true, false, Option, Some, None, Ok, Err, option_map, refl, ap}
use Rattle.std.proofs.Common.{sym, ◌∙◌, inl, inr, arith}
use Rattle.std.proofs.KnownBytes.{Appends-trans}
use Rattle.std.specs.Io.KnownBytes.{Appends}
use Rattle.one_box.specs.Showing.{LinkView}
use Rattle.outside.specs.Causes.{Rose, next_count}
use Rattle.outside.specs.Prefixes.{AppendsPrefix}
use Rattle.outside.specs.Ports.{GivesNext, next_link}
use Rattle.outside.specs.declared.errors.DeviceError.TheVariants as devices
use Rattle.outside.proofs.Counts.{counts_none}
use Rattle.outside.specs.declared.clock.Clock as clocks
use Rattle.outside.specs.declared.link.Link as links
use Rattle.outside.specs.declared.ports.Ports as ports_trait
use Rattle.outside.specs.declared.sink.Sink as sinks
use Rattle.outside.specs.declared.link.PollAnswer.{PollAnswer}
use Rattle.outside.specs.declared.link.LinkCall.{LinkCall}
use Rattle.udp_node.specs.Effects.{Line, effects_by, lines, step_effects, WrotePrefix}
use Rattle.udp_node.specs.Folding.{taking, TookSome}
use Rattle.udp_node.specs.Ports.{port_of}
use Rattle.udp_node.specs.NodeRun.{NodeRun, ServedRun, ServesAfter}
use Rattle.udp_node.specs.Sends.{LinkSide, side, last_count}
use Rattle.udp_node.specs.declared.errors.ServeError.TheVariants as serve_errors
use Rattle.udp_node.specs.declared.serving.Served.{Served}
use Rattle.udp_node.proofs.EffectLemmas.{done_then, stops_then, stops_more, wrote_line}
use Rattle.commands.specs.Nodes.{last_text, last_effects, end_status, IsNodeStatus, IsUnattachedStatus, EndsNodeWithoutFault}
use Rattle.commands.specs.Nodes.{LastLine, EndsInLine, NodeEndsOver}
use Rattle.commands.specs.Nodes.{Finished, RunEnds, NodeTask, run_of, RunObserved, PortsView, NodeEnds}
use Rattle.commands.specs.declared.status.Status.{Status}
use Rattle.commands.specs.declared.status.Status.TheVariants as statuses

-- ---- the last line

last_is : (trace : Bool) (r : NodeRun) (turns lost : ℕ) → r.broken ≡ false → turns ≡ r.turns
    → last_effects trace r.broken r.turns lost ≡ Line (last_text trace turns lost) ∷ []
last_is trace r turns lost works same =
    ap (λ b. last_effects trace b r.turns lost) works ∙ ap (λ n. Line (last_text trace n lost) ∷ []) (sym same)

module _ {S : Type 0} (k : NodeTask S) (losses losses_now : ℕ) (served : Served) (last : S) (h i j : Option (List ℕ))
    (most : served.turns ≤ k.turns) (spent : served.done ≡ false → served.turns ≡ k.turns)
    (counted : min (losses + served.lost) last_count ≤ losses_now) (same_done : served.done ≡ k.is_done last)
    (took : TookSome k.next (step_effects k.trace k.at) k.first k.opening last h i)
    (wrote : Appends i j (last_text k.trace served.turns served.lost)) where
  last_line : (s : Status) → s ≡ end_status k.waits served.done → (s ≡ statuses.Unanswered → served.turns ≡ k.turns)
      → LastLine k losses losses_now s h j
  last_line s is all = record {
    inputs = took.inputs;
    outside = took.outside;
    taken = served.turns;
    lost = served.lost;
    most = most;
    all = all;
    counted = counted;
    ends = is ∙ ap (end_status k.waits) (same_done ∙ ap k.is_done took.state);
    line = Appends-trans h i j (lines (effects_by (step_effects k.trace k.at) (taking k.next k.opening (k.first ++ took.inputs))))
        (last_text k.trace served.turns served.lost) took.written wrote;
  }

  in_line : (waits done : Bool) → waits ≡ k.waits → done ≡ served.done
      → EndsInLine k losses losses_now (end_status waits done) h j
  in_line true true w d = last_line statuses.Done (rw (← w, ← d) refl) (λ is. absurd cc)
  in_line true false w d = last_line statuses.Unanswered (rw (← w, ← d) refl) (λ is. spent (sym d))
  in_line false true w d = last_line statuses.Done (rw (← w) refl) (λ is. absurd cc)
  in_line false false w d = last_line statuses.Done (rw (← w) refl) (λ is. absurd cc)

  pub ends_in_last : (s : Status) → s ≡ end_status k.waits served.done → EndsInLine k losses losses_now s h j
  ends_in_last s is = rw is (in_line k.waits served.done refl refl)

module _ {S : Type 0} (k : NodeTask S) where
  finished : (r : NodeRun) (served : Served) (a b : LinkSide) (h i j : Option (List ℕ))
      → ServedRun (step_effects k.trace k.at) r served a (record b { lost = served.lost }) h i → Appends i j (last_text k.trace served.turns served.lost)
      → Finished k.trace k.at k.waits r (end_status k.waits served.done) a b h j
  finished r served a b h i j one wrote = record {
    lost = served.lost;
    works = one.works;
    ends = ap (end_status k.waits) one.done;
    effects = rw (last_is k.trace r served.turns served.lost one.works one.turns)
        (done_then (effects_by (step_effects k.trace k.at) r.acts) (Line (last_text k.trace served.turns served.lost) ∷ []) a
        (record b { lost = served.lost }) (record b { lost = served.lost }) h i j one.effects
        (wrote_line {T = Unit {0}} (last_text k.trace served.turns served.lost) (Ok tt) (record b { lost = served.lost }) i j wrote));
  }

  as_finished : (w d : Bool) (r : NodeRun) (a b : LinkSide) (h i : Option (List ℕ))
      → Finished k.trace k.at w r (end_status w d) a b h i → RunEnds k.trace k.at w r (end_status w d) a b h i
  as_finished true true r a b h i one = one
  as_finished true false r a b h i one = one
  as_finished false true r a b h i one = one
  as_finished false false r a b h i one = one

  pub ends_served : (o : Option (List PollAnswer)) (v : Option (List ℕ)) (served : Served) (s : Status) (a b : LinkSide)
      (h i j : Option (List ℕ)) → ServesAfter k.next k.is_done k.first k.timers (step_effects k.trace k.at) k.turns k.opening o v (Ok served) a b h i
      → Appends i j (last_text k.trace served.turns served.lost) → s ≡ end_status k.waits served.done → RunObserved k o v s a b h j
  ends_served None v served s a b h i j serves wrote is = tt
  ends_served (Some x) None served s a b h i j serves wrote is = tt
  ends_served (Some x) (Some y) served s a b h i j serves wrote is =
      rw is (as_finished k.waits served.done (run_of k x y) a b h j (finished (run_of k x y) served a b h i j serves wrote))

  pub ends_in_line : (o : Option (List PollAnswer)) (v : Option (List ℕ)) (served : Served) (a b : LinkSide)
      (h i j : Option (List ℕ)) → ServesAfter k.next k.is_done k.first k.timers (step_effects k.trace k.at) k.turns k.opening o v (Ok served) a b h i
      → AppendsPrefix i j (last_text k.trace served.turns served.lost) → RunObserved k o v statuses.WriteFault a b h j
  ends_in_line None v served a b h i j serves wrote = tt
  ends_in_line (Some x) None served a b h i j serves wrote = tt
  ends_in_line (Some x) (Some y) served a b h i j serves wrote = (
    served.lost,
    rw (last_is k.trace (run_of k x y) served.turns served.lost serves.works serves.turns)
        (stops_then (effects_by (step_effects k.trace k.at) (run_of k x y).acts) (Line (last_text k.trace served.turns served.lost) ∷ []) devices.Failed a
        (record b { lost = served.lost }) (record b { lost = served.lost }) h i j serves.effects
        (wrote_line {T = Unit {0}} (last_text k.trace served.turns served.lost) (Err devices.Failed)
        (record b { lost = served.lost }) i j wrote)),
  )

  pub ends_short : (o : Option (List PollAnswer)) (v : Option (List ℕ)) (served : Served) (a b : LinkSide)
      (h i j : Option (List ℕ)) → ServesAfter k.next k.is_done k.first k.timers (step_effects k.trace k.at) k.turns k.opening o v (Ok served) a b h i
      → WrotePrefix (last_text k.trace served.turns served.lost) i j → RunObserved k o v statuses.NoMemory a b h j
  ends_short None v served a b h i j serves wrote = tt
  ends_short (Some x) None served a b h i j serves wrote = tt
  ends_short (Some x) (Some y) served a b h i j serves wrote = (
    served.lost,
    rw (last_is k.trace (run_of k x y) served.turns served.lost serves.works serves.turns)
        (stops_then (effects_by (step_effects k.trace k.at) (run_of k x y).acts) (Line (last_text k.trace served.turns served.lost) ∷ []) devices.NoMemory a
        (record b { lost = served.lost }) (record b { lost = served.lost }) h i j serves.effects
        (wrote_line {T = Unit {0}} (last_text k.trace served.turns served.lost) (Err devices.NoMemory)
        (record b { lost = served.lost }) i j wrote)),
  )

  pub ends_broken : (o : Option (List PollAnswer)) (v : Option (List ℕ)) (a b : LinkSide) (h i : Option (List ℕ))
      → ServesAfter k.next k.is_done k.first k.timers (step_effects k.trace k.at) k.turns k.opening o v (Err serve_errors.LinkFault) a b h i
      → RunObserved k o v statuses.LinkFault a b h i
  ends_broken None v a b h i serves = tt
  ends_broken (Some x) None a b h i serves = tt
  ends_broken (Some x) (Some y) a b h i serves = serves

  pub ends_writing : (o : Option (List PollAnswer)) (v : Option (List ℕ)) (a b : LinkSide) (h i : Option (List ℕ))
      → ServesAfter k.next k.is_done k.first k.timers (step_effects k.trace k.at) k.turns k.opening o v (Err serve_errors.WriteFault) a b h i
      → RunObserved k o v statuses.WriteFault a b h i
  ends_writing None v a b h i serves = tt
  ends_writing (Some x) None a b h i serves = tt
  ends_writing (Some x) (Some y) a b h i serves = (
    serves.0,
    stops_more (effects_by (step_effects k.trace k.at) (run_of k x y).acts) (last_effects k.trace (run_of k x y).broken (run_of k x y).turns serves.0)
        devices.Failed a (record b { lost = serves.0 }) h i serves.1,
  )

  pub ends_without_memory : (o : Option (List PollAnswer)) (v : Option (List ℕ)) (a b : LinkSide) (h i : Option (List ℕ))
      → ServesAfter k.next k.is_done k.first k.timers (step_effects k.trace k.at) k.turns k.opening o v (Err serve_errors.NoMemory) a b h i
      → RunObserved k o v statuses.NoMemory a b h i
  ends_without_memory None v a b h i serves = tt
  ends_without_memory (Some x) None a b h i serves = tt
  ends_without_memory (Some x) (Some y) a b h i serves = (
    serves.0,
    stops_more (effects_by (step_effects k.trace k.at) (run_of k x y).acts) (last_effects k.trace (run_of k x y).broken (run_of k x y).turns serves.0)
        devices.NoMemory a (record b { lost = serves.0 }) h i serves.1,
  )

  -- ---- from the attach on

  pub from_attach : (links later : Option (List (List PollAnswer))) (o : Option (List PollAnswer)) (v : Option (List ℕ))
      (trace : Option (List LinkCall)) (losses : ℕ) (s : Status) (b : LinkSide) (h i : Option (List ℕ)) → GivesNext links later o trace
      → losses ≡ 0 → RunObserved k o v s (side trace 0 losses) b h i → RunObserved k (option_map next_link links) v s (side (Some []) 0 0) b h i
  from_attach None later o v trace losses s b h i gives none run = tt
  from_attach (Some links) later o v trace losses s b h i gives none run = rw (gives.1, gives.2, none) at run

-- the node ran over this link
pub attached_ends : {S L : Type 0} (k : NodeTask S) (w : LinkView L) (p : PortsView L) (values : Option (List ℕ)) (s : Status)
    (h i : Option (List ℕ)) (link : L) (later : Option (List (List PollAnswer))) (o : Option (List PollAnswer))
    (trace : Option (List LinkCall)) (losses faults : ℕ) → p.after ≡ p.before ++ link ∷ [] → w.port link ≡ port_of k.at.base k.at.own
    → IsNodeStatus k.waits s → (s ≡ statuses.LinkFault → Rose faults (w.faults link)) → EndsInLine k losses (w.losses link) s h i → faults ≡ 0 → losses ≡ 0
    → GivesNext p.to_come later o trace → RunObserved k o values s (side trace 0 losses) (side (w.trace link) 0 (w.losses link)) h i
    → NodeEnds k w p values s h i
attached_ends k w p values s h i link later o trace losses faults back port may cause last none no_losses gives run = inr (record {
  link = link;
  given_back = back;
  port = port;
  status = may;
  cause = λ is. rw none at (cause is);
  last = rw no_losses at last;
  run = from_attach k p.to_come later o values trace losses s (side (w.trace link) 0 (w.losses link)) h i gives no_losses run;
})

pub unattached_ends : {S L : Type 0} (k : NodeTask S) (w : LinkView L) (p : PortsView L) (values : Option (List ℕ)) (s : Status)
    (h : Option (List ℕ)) → p.after ≡ p.before → IsUnattachedStatus s → (s ≡ statuses.LinkFault → Rose p.faults_before p.faults_after)
    → NodeEnds k w p values s h h
unattached_ends k w p values s h back may cause = inl (record { given_back = back; status = may; cause = cause; written = refl })

-- ---- no fault of a device

module _ {S L : Type 0} (k : NodeTask S) (w : LinkView L) (p : PortsView L) (values : Option (List ℕ)) (h i : Option (List ℕ)) where
  pub ends_well : (s : Status) (x y : ℕ) → NodeEnds k w p values s h i → ¬ Rose p.faults_before p.faults_after
      → (s ≡ statuses.WriteFault → Rose x y) → ¬ Rose x y
      → ((link : L) → p.after ≡ p.before ++ link ∷ [] → ¬ Rose 0 (w.faults link)) → EndsNodeWithoutFault k.waits s
  ends_well statuses.Done x y ends ports write sink polls = tt
  ends_well statuses.WriteFault x y ends ports write sink polls = absurd (sink (write refl))
  ends_well statuses.LinkFault x y (inl u) ports write sink polls = absurd (ports (u.cause refl))
  ends_well statuses.LinkFault x y (inr a) ports write sink polls = absurd (polls a.link a.given_back (a.cause refl))
  ends_well statuses.NoMemory x y ends ports write sink polls = tt
  ends_well statuses.Unanswered x y (inr a) ports write sink polls = a.status
  ends_well _ x y (inl u) ports write sink polls = absurd u.status
  ends_well _ x y (inr a) ports write sink polls = absurd a.status

  pub reads_nothing : (s : Status) (P : Type 0) → NodeEnds k w p values s h i → s ≡ statuses.ReadFault → P
  reads_nothing s P (inl u) is = let no : ⊥ = rw is at u.status in absurd no
  reads_nothing s P (inr a) is = let no : ⊥ = rw is at a.status in absurd no

-- a count that rose by one rose
pub rose_at : (a b : ℕ) → b ≡ next_count a → Rose a b
rose_at a b is = omega (arith, is)

-- a run that is served to its end met no fault
pub end_is_no_fault : (waits done : Bool) (s : Status) → s ≡ end_status waits done → (s ≡ statuses.WriteFault → ⊥) × (s ≡ statuses.LinkFault → ⊥)
end_is_no_fault true true s is = (λ failed. cc, λ failed. cc)
end_is_no_fault true false s is = (λ failed. cc, λ failed. cc)
end_is_no_fault false true s is = (λ failed. cc, λ failed. cc)
end_is_no_fault false false s is = (λ failed. cc, λ failed. cc)

-- memory ran out before a link was attached
pub not_run : {S P L T K : Type 0} (link : links.Ghosts L) (ports : ports_trait.Ghosts P L) (clock : clocks.Ghosts T) (sink : sinks.Ghosts K)
    (k : NodeTask S) (p : P) (time : T) (held : K) → NodeEndsOver link ports clock sink k p p time held held statuses.NoMemory
not_run link ports clock sink k p time held = record {
  ends = unattached_ends k _ _ _ _ _ refl tt (λ is. cc);
  status = tt;
  back = refl;
  attaches = λ other. refl;
  writes = counts_none _ _ _ refl (λ is. cc);
}
