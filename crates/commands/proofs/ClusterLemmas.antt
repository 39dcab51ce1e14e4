-- How a cluster in one process ends.
use Rattle.std.proofs.Common.{arith, ◌≡◌, ◌≤◌, ◌+◌, ◌*◌, ℕ, List, length, Bool, true, Option, Some, Result, Ok, refl, subst, inl, inr}
use Rattle.command_line.specs.declared.command.Command.{Command}
use Rattle.command_line.specs.declared.command.Command.TheVariants.{Cluster}
use Rattle.command_line.specs.declared.command.Site.{Site}
use Rattle.command_line.specs.declared.options.TheConstants.{MAX_CLUSTER_TURNS}
use Rattle.nop_types.specs.Meaning.{Meaning}
use Rattle.nop_types.specs.declared.limits.TheConstants.{MAX_LINES}
use Rattle.one_box.specs.declared.boxed.Boxed.{Boxed}
use Rattle.one_box.specs.declared.errors.ClusterError.{ClusterError}
use Rattle.one_box.specs.Boxing.{PollFailed}
use Rattle.one_box.specs.Counting.{most_of_turn}
use Rattle.one_box.specs.Showing as boxed
use Rattle.outside.specs.Causes.{Rose}
use Rattle.commands.specs.Clusters.{ServesAll, ClusterFinished, ClusterCommandEnds, runs_cluster, ClusterEndsWithoutFault}
use Rattle.commands.specs.Nodes.{PortsView}
use Rattle.commands.specs.declared.status.Status.{Status}
use Rattle.commands.specs.declared.status.Status.TheVariants as statuses

pub no_rise : ¬ Rose 0 0
no_rise rose = omega arith

-- the events of so many turns fit a schedule, behind its first line
within : (turns events : ℕ) → turns ≤ MAX_CLUSTER_TURNS → events ≤ turns * most_of_turn → 1 + events ≤ MAX_LINES
within turns events few most = omega (arith, few, most)

module _ {S L : Type 0} (m : Meaning S) (w : boxed.LinkView L) (p : PortsView L) (values : Option (List ℕ)) where
  -- memory ran out before anything was done
  pub not_served : (c : Option Command) (h : Option (List ℕ)) → ClusterCommandEnds m c w p values statuses.NoMemory h h
  not_served (Some (Cluster site ops)) h = inl refl
  not_served _ h = tt

  -- a cluster ends well where no attach failed, no poll of a link that was given back, and no write
  pub cluster_ends_well : (c : Option Command) (s : Status) (h i : Option (List ℕ)) (x y : ℕ) → runs_cluster c ≡ true
      → ClusterCommandEnds m c w p values s h i → ¬ Rose p.faults_before p.faults_after → (s ≡ statuses.WriteFault → Rose x y) → ¬ Rose x y
      → ¬ PollFailed w p.before p.after → ClusterEndsWithoutFault s
  cluster_ends_well (Some (Cluster site ops)) statuses.Done h i x y runs ends ports write sink polls = tt
  cluster_ends_well (Some (Cluster site ops)) statuses.WriteFault h i x y runs ends ports write sink polls = sink (write refl)
  cluster_ends_well (Some (Cluster site ops)) statuses.LinkFault h i x y runs ends ports write sink polls =
      elim ends.cause [
        | inl rose ↦ ports rose
        | inr failed ↦ polls failed
      ]
  cluster_ends_well (Some (Cluster site ops)) statuses.NoMemory h i x y runs ends ports write sink polls = tt
  cluster_ends_well (Some (Cluster site ops)) statuses.Unanswered h i x y runs ends ports write sink polls = tt
  cluster_ends_well (Some (Cluster site ops)) _ h i x y runs ends ports write sink polls = ends
  cluster_ends_well _ s h i x y runs ends ports write sink polls = absurd cc

  -- links whose polls never fail
  pub no_poll_failed : ((link : L) → w.faults link ≡ 0) → ¬ PollFailed w p.before p.after
  no_poll_failed none failed = no_rise (rw (none failed.fault.node.link) at failed.fault.rose)

  -- ---- of equal ops

  module _ (site : Site) (xs ops : List (List ℕ)) (same : xs ≡ ops) where
    pub serves_same : (result : Result Boxed ClusterError) (h i : Option (List ℕ)) → ServesAll m site xs w p values result h i
        → ServesAll m site ops w p values result h i
    serves_same result h i serves = subst (λ (zs : List (List ℕ)). ServesAll m site zs w p values result h i) same serves

    pub finishes : (boxed : Boxed) (done : Bool) (h i : Option (List ℕ)) → site.turns ≤ MAX_CLUSTER_TURNS → boxed.done ≡ done
        → ServesAll m site xs w p values (Ok boxed) h i → ClusterFinished m site ops w p values done h i
    finishes boxed done h i turns same_done serves =
        let all = serves_same (Ok boxed) h i serves in
        record {
          boxed = boxed;
          same_done = same_done;
          ran = all.0;
          wrote = all.1;
          replays = all.2 (within site.turns (length all.0.events) turns all.0.few);
        }
