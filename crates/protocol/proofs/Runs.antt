-- Lists of moves keep what holds.
use Rattle.std.proofs.Common.{ℕ, List, [], ◌∷◌}
use Rattle.nop_types.specs.Meaning.{Meaning}
use Rattle.protocol.specs.Conf.{Conf}
use Rattle.protocol.specs.Invariant.{Inv}
use Rattle.protocol.specs.Laws.{MovesKeep, ViewsNeverFall}
use Rattle.protocol.specs.Runs.{Act, Queue, TakeFront, Fill, OpenGap, CountGapVote, WriteGap, AddGap, Enter, KeepChange, OpenView, Adopt}
use Rattle.protocol.specs.Runs.{Say, Overlay, Obey, OpenSync, CountSyncVote, RepeatCommit, Move, Acts, MoveTo, Installed, Install, Stamp}
use Rattle.protocol.specs.Runs.{Submit, Keep, Accept, AddLines, happens, May, run, MayAll}
use Rattle.protocol.proofs.Accept.{accept_keeps}
use Rattle.protocol.proofs.Adopt.{adopt_keeps}
use Rattle.protocol.proofs.OpenView.{open_view_keeps}
use Rattle.protocol.proofs.Enter.{enter_keeps}
use Rattle.protocol.proofs.WriteGap.{write_gap_keeps}
use Rattle.protocol.proofs.Overlay.{overlay_keeps}
use Rattle.protocol.proofs.Growing.{Kept}
use Rattle.protocol.proofs.Queue.{queue_keeps}
use Rattle.protocol.proofs.Say.{say_keeps}
use Rattle.protocol.proofs.Obey.{obey_keeps}
use Rattle.protocol.proofs.OpenSync.{open_sync_keeps}
use Rattle.protocol.proofs.CountSyncVote.{count_sync_vote_keeps}
use Rattle.protocol.proofs.RepeatCommit.{repeat_commit_keeps}
use Rattle.protocol.proofs.Keep.{keep_keeps}
use Rattle.protocol.proofs.MoveTo.{move_to_keeps}
use Rattle.protocol.proofs.Installed.{installed_keeps}
use Rattle.protocol.proofs.Install.{install_keeps}
use Rattle.protocol.proofs.TakeFront.{take_front_keeps}
use Rattle.protocol.proofs.Fill.{fill_keeps}
use Rattle.protocol.proofs.OpenGap.{open_gap_keeps}
use Rattle.protocol.proofs.AddGap.{add_gap_keeps}
use Rattle.protocol.proofs.Stamp.{stamp_keeps}
use Rattle.protocol.proofs.Stays.{evolves_refl, evolves_trans}
use Rattle.protocol.proofs.Submit.{submit_keeps}
use Rattle.protocol.proofs.AddLines.{add_lines_keeps}
use Rattle.protocol.proofs.CountGapVote.{count_gap_vote_keeps}
use Rattle.protocol.proofs.KeepChange.{keep_change_keeps}

module _ {S : Type 0} (m : Meaning S) (f : ℕ) where
  act_keeps : (c : Conf) (r : ℕ) (a : Act) → Inv m f c → May f c (Acts r a) → Kept m f c (happens m f c (Acts r a))
  act_keeps c r (Queue x) inv (l, may) = queue_keeps m f c r inv l x may
  act_keeps c r (TakeFront q) inv (l, may) = take_front_keeps m f c r inv l q may
  act_keeps c r (Fill q) inv (l, may) = fill_keeps m f c r inv l q may
  act_keeps c r OpenGap inv (l, may) = open_gap_keeps m f c r inv l may
  act_keeps c r (CountGapVote g q) inv (l, may) = count_gap_vote_keeps m f c r inv l g q may
  act_keeps c r (WriteGap k) inv (l, may) = write_gap_keeps m f c r inv l k may
  act_keeps c r AddGap inv (l, may) = add_gap_keeps m f c r inv l may
  act_keeps c r (Enter v) inv (l, may) = enter_keeps m f c r inv l v may
  act_keeps c r (KeepChange g x) inv (l, may) = keep_change_keeps m f c r inv l g x may
  act_keeps c r (OpenView g) inv (l, may) = open_view_keeps m f c r inv l g may
  act_keeps c r (Adopt v x z log) inv (l, may) = adopt_keeps m f c r inv l v x z log may
  act_keeps c r (Say x) inv (l, may) = say_keeps m f c r inv l x may
  act_keeps c r (Overlay z log) inv (l, may) = overlay_keeps m f c r inv l z log may
  act_keeps c r (Obey k) inv (l, may) = obey_keeps m f c r inv l k may.may_follow.normal
  act_keeps c r OpenSync inv (l, may) = open_sync_keeps m f c r inv l may
  act_keeps c r (CountSyncVote q k) inv (l, may) = count_sync_vote_keeps m f c r inv l q k may.may_lead.normal
  act_keeps c r RepeatCommit inv (l, may) = repeat_commit_keeps m f c r inv l

  pub happens_keeps : (c : Conf) (x : Move) → Inv m f c → May f c x → Kept m f c (happens m f c x)
  happens_keeps c (Acts r a) inv may = act_keeps c r a inv may
  happens_keeps c (MoveTo k j s) inv may = move_to_keeps m f c inv k j s may
  happens_keeps c (Installed k) inv may = installed_keeps m f c inv k
  happens_keeps c (Install j s) inv may = install_keeps m f c inv j s may
  happens_keeps c (Stamp j r) inv may = stamp_keeps m f c inv j r may
  happens_keeps c (Submit k op waiting) inv may = submit_keeps m f c inv k op waiting may
  happens_keeps c (Keep k p) inv may = keep_keeps m f c inv k p may
  happens_keeps c (Accept k p leaders) inv may = accept_keeps m f c inv k p leaders may
  happens_keeps c (AddLines more) inv may = add_lines_keeps m f c inv more may

  pub run_keeps : (c : Conf) (xs : List Move) → Inv m f c → MayAll m f c xs → Kept m f c (run m f c xs)
  run_keeps c [] inv may = (inv, evolves_refl m f c inv)
  run_keeps c (x ∷ xs) inv (may, rest) =
      let one = happens_keeps c x inv may in
      let all = run_keeps (happens m f c x) xs one.0 rest in
      (all.0, evolves_trans f c (happens m f c x) (run m f (happens m f c x) xs) one.1 all.1)

pub moves_keep : {S : Type 0} (m : Meaning S) → MovesKeep m
moves_keep m f c xs inv may = run_keeps m f c xs inv may

pub views_never_fall : {S : Type 0} (m : Meaning S) → ViewsNeverFall m
views_never_fall m f c xs inv may = let all = run_keeps m f c xs inv may in record { view = all.1.views; last_normal = all.1.normals }
