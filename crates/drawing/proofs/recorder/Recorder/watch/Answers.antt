use Rattle.std.proofs.Common.{◌≡◌, [], ◌∷◌, ◌++◌, None, refl, arith}
use Rattle.std.proofs.lemmas.Grind.{common_steps}
use Rattle.drawing.specs.declared.recorder.Watched.{Watched}
use Rattle.drawing.proofs.recorder.Recorder.watch.Goals as goal

pub returns-clause-watched : goal.returns-clause-watched
returns-clause-watched c = λ kept.
    let watched : Watched = record { standing = c.args.standing; role = c.role-role.result; since = None } in
    let items : c.push.new.self.items ≡ c.args.self.now.watched.items ++ watched ∷ [] = grind (arith, common_steps) in
    record { watched = watched; standing_is = refl; since_is = refl; is = items }
