-- The task that words ask for.
use Rattle.std.specs.Prelude.{ℕ, ◌+◌, ◌-◌, ◌^◌, ◌≤◌, ◌==◌, nat_lt, length, List, [], ◌∷◌, Option, Some, None, codes, if◌then◌else◌}
use Rattle.std.specs.Option.{option_copied}
use Rattle.std.specs.declared.net.socket_addr.SocketAddr.{SocketAddr}
use Rattle.oum_codec.specs.Numbers.{◌>>=◌}
use Rattle.line_fields.specs.Fields.{is_text}
use Rattle.nop_types.specs.declared.limits.TheConstants.{MAX_OBSERVERS}
use Rattle.client_call.specs.declared.call.Service.{Service}
use Rattle.host_list.specs.Addresses.{spelled_address}
use Rattle.site_words.specs.Services.{number_in, service_of}
use Rattle.site_words.specs.declared.task.TheConstants.{MAX_NUMBERS}
use Rattle.site_words.specs.declared.task.Numbers.{Numbers}
use Rattle.site_words.specs.declared.task.Site.{Site}
use Rattle.site_words.specs.declared.task.Site.TheVariants.{Near, Listed}
use Rattle.site_words.specs.declared.task.Task.{Task}

-- a service on this machine, or the texts of a list's file and of a folder of marks; and the observer at whose place it is watched, if it is
pub data Place : Type 0 where
  AtPorts : Service → (observer : Option ℕ) → Place
  AtHosts : List ℕ → Option (List ℕ) → (observer : Option ℕ) → Place

pub record Asked : Type 0 where
  pub listen : SocketAddr
  pub place : Place
  pub numbers : Numbers

-- a task, with its texts themselves
abbrev pub place_seen : Site → Place
place_seen (Near service observer) = AtPorts service observer
place_seen (Listed list marks observer) = AtHosts list.now (option_copied marks) observer

abbrev pub seen : Task → Asked
seen task = record { listen = task.listen; place = place_seen task.site; numbers = task.numbers }

-- the numbers from the first one on, all below 2^32
abbrev pub numbers_of : List ℕ → List ℕ → Option Numbers
numbers_of first count = do
  n ← number_in 1 MAX_NUMBERS count
  from ← number_in 0 (2 ^ 32 - n) first
  Some (record { first = from; count = n })

-- none is over 2^32 - 1
abbrev pub AreBelow : Numbers → Type 0
AreBelow numbers = numbers.first + numbers.count ≤ 2 ^ 32

-- the address for users, and the numbers
abbrev pub ends_of : List ℕ → List ℕ → List ℕ → Option (SocketAddr × Numbers)
ends_of listen first count = do
  address ← spelled_address listen
  numbers ← numbers_of first count
  Some (address, numbers)

abbrev pub asked : List ℕ → Place → List ℕ → List ℕ → Option Asked
asked listen place first count = do
  ends ← ends_of listen first count
  Some (record { listen = ends.0; place = place; numbers = ends.1 })

abbrev pub asked_at : List ℕ → Option Service → List ℕ → List ℕ → Option Asked
asked_at listen service first count = do
  s ← service
  asked listen (AtPorts s None) first count

-- with so many observers
abbrev pub observed : Option Service → List ℕ → Option Service
observed service observers = do
  s ← service
  n ← number_in 0 MAX_OBSERVERS observers
  Some (record s { config = record s.config { observers = n } })

-- a service, and one of its observers
abbrev pub watched : Option Service → List ℕ → Option (Service × ℕ)
watched service own = do
  s ← service
  i ← number_in 0 MAX_OBSERVERS own
  if nat_lt i s.config.observers then Some (s, i) else None

-- watched at the place of an observer
abbrev pub watched_at : List ℕ → Option Service → List ℕ → List ℕ → List ℕ → Option Asked
watched_at listen service own first count = do
  w ← watched service own
  asked listen (AtPorts w.0 (Some w.1)) first count

-- the number of an observer of a list of hosts
abbrev pub listed_observer : List ℕ → Option ℕ
listed_observer own = number_in 0 (MAX_OBSERVERS - 1) own

-- where a list of hosts says, watched at the place of an observer
abbrev pub asked_from : List ℕ → List ℕ → Option (List ℕ) → List ℕ → List ℕ → List ℕ → Option Asked
asked_from listen list marks own first count = do
  i ← listed_observer own
  asked listen (AtHosts list marks (Some i)) first count

-- the same, with a folder of marks
abbrev pub marked_from : List ℕ → List ℕ → List ℕ → List ℕ → List ℕ → List ℕ → List ℕ → Option Asked
marked_from listen list folder at own first count =
    if is_text (codes "--at") at then asked_from listen list (Some folder) own first count else None

-- a service on this machine, with observers
abbrev pub of_eight : List ℕ → List ℕ → List ℕ → List ℕ → List ℕ → List ℕ → List ℕ → List ℕ → Option Asked
of_eight listen port replicas sequencers option observers first count =
    if is_text (codes "--observers") option
    then asked_at listen (observed (service_of port replicas sequencers) observers) first count
    else None

-- a list of hosts with a folder of marks, or a service on this machine
unfoldable pub by_second : List ℕ → List ℕ → List ℕ → List ℕ → List ℕ → List ℕ → List ℕ → List ℕ → Option Asked
by_second listen a b c option d first count =
    if is_text (codes "--marks") b
    then marked_from listen a c option d first count
    else of_eight listen a b c option d first count

-- the words after the first four
abbrev pub observed_at : List ℕ → List ℕ → List ℕ → List ℕ → List (List ℕ) → Option Asked
observed_at listen a b c (option ∷ d ∷ first ∷ count ∷ []) = by_second listen a b c option d first count
observed_at listen a b c words = None

-- eight words behind the program's name
abbrev pub observed_task : List (List ℕ) → Option Asked
observed_task (program ∷ listen ∷ port ∷ replicas ∷ sequencers ∷ rest) = observed_at listen port replicas sequencers rest
observed_task words = None

-- one of their places is the gateway's own
abbrev pub of_place : List ℕ → Service → List ℕ → List ℕ → List ℕ → List ℕ → Option Asked
of_place listen service at own first count =
    if is_text (codes "--at") at then watched_at listen (Some service) own first count else None

-- the words after their number
abbrev pub own_place_behind : List ℕ → Service → List (List ℕ) → Option Asked
own_place_behind listen service (at ∷ own ∷ first ∷ count ∷ []) = of_place listen service at own first count
own_place_behind listen service words = None

abbrev pub with_own_place : List ℕ → Option Service → List (List ℕ) → Option Asked
with_own_place listen service words = do
  s ← service
  own_place_behind listen s words

abbrev pub own_place_by : List ℕ → Service → List ℕ → List ℕ → List (List ℕ) → Option Asked
own_place_by listen service option observers words =
    if is_text (codes "--observers") option then with_own_place listen (observed (Some service) observers) words else None

-- the words after the first four
abbrev pub own_place_at : List ℕ → Service → List (List ℕ) → Option Asked
own_place_at listen service (option ∷ observers ∷ words) = own_place_by listen service option observers words
own_place_at listen service words = None

-- ten words behind the program's name
abbrev pub own_place_task : List (List ℕ) → Option Asked
own_place_task (program ∷ listen ∷ port ∷ replicas ∷ sequencers ∷ rest) = do
  s ← service_of port replicas sequencers
  own_place_at listen s rest
own_place_task words = None

-- a list of hosts at the place of an observer, or a service on this machine
unfoldable pub of_six_unmarked : List ℕ → List ℕ → List ℕ → List ℕ → List ℕ → List ℕ → Option Asked
of_six_unmarked listen a b c first count =
    if is_text (codes "--at") b then asked_from listen a None c first count else asked_at listen (service_of a b c) first count

unfoldable pub of_six : List ℕ → List ℕ → List ℕ → List ℕ → List ℕ → List ℕ → Option Asked
of_six listen a b c first count =
    if is_text (codes "--marks") b
    then asked listen (AtHosts a (Some c) None) first count
    else of_six_unmarked listen a b c first count

-- six words behind the program's name, or four
abbrev pub plain_task : List (List ℕ) → Option Asked
plain_task (program ∷ listen ∷ a ∷ b ∷ c ∷ first ∷ count ∷ []) = of_six listen a b c first count
plain_task (program ∷ listen ∷ list ∷ first ∷ count ∷ []) = asked listen (AtHosts list None None) first count
plain_task words = None

abbrev pub task_of : List (List ℕ) → Option Asked
task_of words =
    if length words == 9 then observed_task words else if length words == 11 then own_place_task words else plain_task words
