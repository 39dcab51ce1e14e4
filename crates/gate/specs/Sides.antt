-- What is seen of a gateway and of its devices.
use Rattle.std.specs.Prelude.{ℕ, List, map, Option}
use Rattle.attached_links.specs.declared.attached.AttachedLink.{AttachedLink}
use Rattle.outside.specs.declared.link.Link as link_trait
use Rattle.outside.specs.declared.link.PollAnswer.{PollAnswer}
use Rattle.users.specs.declared.event.UserAnswer.{UserAnswer}
use Rattle.users.specs.declared.event.UserCall.{UserCall}
use Rattle.users.specs.declared.users.Users as users_trait
use Rattle.gate_core.specs.declared.gate_state.GateState.{GateState}
use Rattle.gate.specs.declared.lines.Timers.{Timers}
use Rattle.gate.specs.declared.lines.Lines as code_lines
use Rattle.gate.specs.declared.site.Site as code_site

-- of users: what the calls to come answer, what was done, and how many calls failed
pub record UsersSeen : Type 0 where
  pub to_come : Option (List UserAnswer)
  pub trace : Option (List UserCall)
  pub faults : ℕ

-- of the link of a core: what its polls to come answer, and how many failed
pub record LinkSeen : Type 0 where
  pub answers : Option (List PollAnswer)
  pub faults : ℕ

-- of links: those of so many client cores, in the order of these, and behind them that of the watch, if there is one
pub record LinksSeen : Type 0 where
  pub cores : ℕ
  pub links : List LinkSeen

-- of a gateway: its core, its users, and its links
pub record Side : Type 0 where
  pub state : GateState
  pub users : UsersSeen
  pub links : LinksSeen

abbrev pub seen : GateState → UsersSeen → LinksSeen → Side
seen state users links = record { state = state; users = users; links = links }

abbrev pub users_seen : {U : Type 0} → users_trait.Ghosts U → U → UsersSeen
users_seen u users = record { to_come = u.to_come users; trace = u.trace users; faults = u.fault_count users }

abbrev pub link_seen : {L : Type 0} → link_trait.Ghosts L → L → LinkSeen
link_seen l link = record { answers = l.answers link; faults = l.fault_count link }

abbrev pub line_seen : {L : Type 0} → link_trait.Ghosts L → AttachedLink L Timers → LinkSeen
line_seen l line = link_seen l line.link

abbrev pub lines_seen : {L : Type 0} → link_trait.Ghosts L → List (AttachedLink L Timers) → List LinkSeen
lines_seen l lines = map (line_seen l) lines

abbrev pub links_seen : {L : Type 0} → link_trait.Ghosts L → code_lines.Lines L → LinksSeen
links_seen l lines = record { cores = lines.cores; links = lines_seen l lines.lines.items }

abbrev pub side_with : {L : Type 0} → link_trait.Ghosts L → code_site.Site L → UsersSeen → Side
side_with l site users = seen site.state users (links_seen l site.lines)

abbrev pub side : {L U : Type 0} → link_trait.Ghosts L → users_trait.Ghosts U → code_site.Site L → U → Side
side l u site users = side_with l site (users_seen u users)

abbrev pub link_faults : LinksSeen → List ℕ
link_faults s = map (λ l. l.faults) s.links
