use Rattle.std.proofs.Common.{sym}
use Rattle.std.proofs.lemmas.List.{drop-drop}
use Rattle.users.proofs.users_mem.UsersMem.pass.Goals as goal

pub returns-then-self-len-clause-answers : goal.returns-then-self-len-clause-answers
returns-then-self-len-clause-answers c =
    rw (← c.self.view_is) (sym (drop-drop 1 c.self.inside.at c.self.inside.answers.items))
