-- Lists of moves.
use Rattle.std.specs.Prelude.{◌<◌, ◌+◌, ◌*◌, ℕ, ⊤, List, [], ◌∷◌}
use Rattle.nop_types.specs.declared.view.View.{View}
use Rattle.nop_types.specs.declared.request.Request.{Request}
use Rattle.nop_types.specs.declared.request.Entry.{Entry}
use Rattle.nop_types.specs.declared.datagram.Stamped.{Stamped}
use Rattle.nop_types.specs.declared.datagram.Reply.{Reply}
use Rattle.nop_types.specs.PlainChanges as plain
use Rattle.nop_types.specs.Lines.{Line}
use Rattle.nop_types.specs.Lists.{Has}
use Rattle.nop_types.specs.Meaning.{Meaning}
use Rattle.slot_votes.specs.Agreement.{Agreement}
use Rattle.protocol.specs.Conf.{Conf, Effect, after}
use Rattle.protocol.specs.Said.{Word}
use Rattle.protocol.specs.LocalState.{LocalState, PlainGathering}
use Rattle.protocol.specs.Moves as moves

-- what a replica does
pub data Act : Type 0 where
  Queue : Stamped → Act
  TakeFront : Request → Act
  Fill : Request → Act
  OpenGap : Act
  CountGapVote : Agreement → (voter : ℕ) → Act
  WriteGap : (slot : ℕ) → Act
  AddGap : Act
  Enter : View → Act
  KeepChange : PlainGathering → plain.Change → Act
  OpenView : PlainGathering → Act
  Adopt : View → (next sync_point : ℕ) → (log : List Entry) → Act
  Say : Word → Act
  Overlay : (sync_point : ℕ) → (log : List Entry) → Act
  Obey : (len : ℕ) → Act
  OpenSync : Act
  CountSyncVote : (voter len : ℕ) → Act
  RepeatCommit : Act

-- what an actor does, by its number
pub data Move : Type 0 where
  Acts : (replica : ℕ) → Act → Move
  MoveTo : (controller sequencer session : ℕ) → Move
  Installed : (controller : ℕ) → Move
  Install : (sequencer session : ℕ) → Move
  Stamp : (sequencer : ℕ) → Request → Move
  Submit : (client : ℕ) → (op : List ℕ) → (waiting : List (List ℕ)) → Move
  Keep : (client : ℕ) → Reply → Move
  Accept : (client : ℕ) → (last leaders : Reply) → Move
  AddLines : List Line → Move

abbrev pub effect : {S : Type 0} → Meaning S → LocalState → Act → Effect
effect m p (Queue x) = moves.queue p x
effect m p (TakeFront r) = moves.take_front m p r
effect m p (Fill r) = moves.fill m p r
effect m p OpenGap = moves.open_gap p
effect m p (CountGapVote g q) = moves.count_gap_vote p g q
effect m p (WriteGap k) = moves.write_gap p k
effect m p AddGap = moves.add_gap p
effect m p (Enter v) = moves.enter p v
effect m p (KeepChange g x) = moves.keep_change p g x
effect m p (OpenView g) = moves.open_view m p g
effect m p (Adopt v x z l) = moves.adopt m p v x z l
effect m p (Say x) = moves.say_again p x
effect m p (Overlay z l) = moves.overlay m p z l
effect m p (Obey k) = moves.obey p k
effect m p OpenSync = moves.open_sync p
effect m p (CountSyncVote q k) = moves.count_sync_vote p q k
effect m p RepeatCommit = moves.repeat_commit p

abbrev pub MayAct : ℕ → Conf → LocalState → Act → Type 0
MayAct f c p (Queue x) = Has c.stamps x
MayAct f c p (TakeFront r) = moves.MayTakeFront p r
MayAct f c p (Fill r) = moves.MayFill c p r
MayAct f c p OpenGap = moves.MayOpenGap p
MayAct f c p (CountGapVote g q) = moves.MayCountGapVote f c p g q
MayAct f c p (WriteGap k) = moves.MayWriteGap c p k
MayAct f c p AddGap = moves.MayAddGap c p
MayAct f c p (Enter v) = moves.MayEnter c p v
MayAct f c p (KeepChange g x) = moves.MayKeepChange f c p g x
MayAct f c p (OpenView g) = moves.MayOpenView p g
MayAct f c p (Adopt v x z l) = moves.MayAdopt c p v x z l
MayAct f c p (Say x) = moves.MaySay f c p x
MayAct f c p (Overlay z l) = moves.MayOverlay c p z l
MayAct f c p (Obey k) = moves.MayObey c p k
MayAct f c p OpenSync = moves.MayOpenSync p
MayAct f c p (CountSyncVote q k) = moves.MayCountSyncVote f c p q k
MayAct f c p RepeatCommit = moves.MayLead p

abbrev pub happens : {S : Type 0} → Meaning S → ℕ → Conf → Move → Conf
happens m f c (Acts r a) = after f c r (effect m (c.replicas r) a)
happens m f c (MoveTo k j s) = moves.move_to c k j s
happens m f c (Installed k) = moves.installed c k
happens m f c (Install j s) = moves.install c j s
happens m f c (Stamp j r) = moves.stamp c j r
happens m f c (Submit k op waiting) = moves.submit c k op waiting
happens m f c (Keep k p) = moves.keep c k p
happens m f c (Accept k p leaders) = moves.accept c k p leaders
happens m f c (AddLines more) = moves.add_lines c more

abbrev pub May : ℕ → Conf → Move → Type 0
May f c (Acts r a) = (r < 2 * f + 1) × MayAct f c (c.replicas r) a
May f c (MoveTo k j s) = moves.MayMoveTo c k s
May f c (Installed k) = ⊤
May f c (Install j s) = moves.MayInstall c j s
May f c (Stamp j r) = moves.MayStamp c j r
May f c (Submit k op waiting) = moves.MaySubmit c k
May f c (Keep k p) = moves.MayKeep c k p
May f c (Accept k p leaders) = moves.MayAccept c k p leaders
May f c (AddLines more) = moves.MayAddLines more

module _ {S : Type 0} (m : Meaning S) (f : ℕ) where
  abbrev pub run : Conf → List Move → Conf
  run c [] = c
  run c (x ∷ xs) = run (happens m f c x) xs

  abbrev pub MayAll : Conf → List Move → Type 0
  MayAll c [] = ⊤
  MayAll c (x ∷ xs) = May f c x × MayAll (happens m f c x) xs
