use Rattle.std.proofs.Common.{◌≡◌, ◌∙◌, refl}
use Rattle.service_load.proofs.LoadLemmas.{came}
use Rattle.service_load.proofs.load.Load.comes.Goals as goal

pub returns : goal.returns
returns c =
    came c.args.self.now _ c.args.core _ c.deref.result.now refl refl c.in_ok-told.ensures.state
    (c.deref.ensures.value ∙ c.in_ok-told.ensures.told) c.in_ok-note_all.ensures
