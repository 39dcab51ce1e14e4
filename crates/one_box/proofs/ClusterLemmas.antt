-- A cluster from its links to what it wrote.
use Rattle.std.proofs.Common.{◌≡◌, ◌≤◌, ℕ, ◌+◌, ◌-◌, ◌*◌, ◌^◌, min, List, [], ◌∷◌, ◌++◌, length, map, true, Option, Some, None, Result, Ok, Err}
use Rattle.std.proofs.Common.{refl, sym, ap, subst, ◌∙◌, arith, inl, inr, length-append}
use Rattle.std.proofs.Math.Nat.{mul-le-mul_left}
use Rattle.std.proofs.lemmas.Bool.{and_from}
use Rattle.std.proofs.lemmas.List.{length-map}
use Rattle.std.proofs.lemmas.List.Elements.{recursion_from_All}
use Rattle.std.proofs.lemmas.List.Sums.{sum_by-cons}
use Rattle.std.specs.Prelude.{◌⊎◌, ◌==◌, sum, IsErrOf, IsTrue, OnOk}
use Rattle.std.specs.List.{All}
use Rattle.std.specs.Io.KnownBytes.{Appends}
use Rattle.std.proofs.lemmas.Grind.{common_steps}
use Rattle.nop_types.specs.Checkpoints.{KeepsTo}
use Rattle.nop_types.specs.Configuration.{Configuration, is_configuration}
use Rattle.nop_types.specs.Headers.{gives, is_header}
use Rattle.nop_types.specs.Meaning.{Meaning}
use Rattle.outside.specs.Causes.{Rose, CountsFor}
use Rattle.outside.proofs.Counts.{rose_where}
use Rattle.outside.specs.Clocks.{later_values, ReadsTime}
use Rattle.outside.specs.Prefixes.{AppendsPrefix}
use Rattle.outside.specs.declared.errors.DeviceError.{DeviceError}
use Rattle.outside.specs.declared.errors.DeviceError.TheVariants.{Failed}
use Rattle.outside.specs.declared.errors.DeviceError.TheVariants as devices
use Rattle.outside.specs.declared.link.PollAnswer.{PollAnswer}
use Rattle.printed_runs.proofs.Printing.{prints_again}
use Rattle.replay.specs.Output.{Output}
use Rattle.printed_runs.specs.Printing.{LineMeans, LinesMean, printed}
use Rattle.safety.proofs.Whole.{runs_are_safe}
use Rattle.transcript_text.specs.Transcript.{lines_text}
use Rattle.udp_node.specs.Effects.{WrotePrefix}
use Rattle.world.specs.WorldSteps.{Happened}
use Rattle.one_box.specs.declared.boxed.Boxed.{Boxed}
use Rattle.one_box.specs.declared.errors.ClusterError.{ClusterError}
use Rattle.one_box.specs.declared.errors.ClusterError.TheVariants as errors
use Rattle.one_box.specs.declared.node.BoxActor as code
use Rattle.one_box.specs.declared.serving.Taken.{Taken}
use Rattle.one_box.specs.Actors.{actors_of}
use Rattle.one_box.specs.Attaching.{AttachesAll, Holds, HasRoom, place_for, lost_after, lost_by}
use Rattle.one_box.specs.Boxing.{WritesRun, IsObservedRun, IsNoRun, RanTurns, BreaksOff, RunsOr, Reports, ReportsOf}
use Rattle.one_box.specs.Boxing.{Ran, ReplaysWithin, EndsWith, PollFailed, error_of}
use Rattle.one_box.specs.ClusterRun.{Course, BoxActor, ClusterRun, turns_from, opening_course, opening_nodes, cluster_run}
use Rattle.one_box.specs.Counting.{most_of_turn, turn_in}
use Rattle.one_box.specs.Running.{IsRunIf, EndsAs, RunsObserved, Runs}
use Rattle.one_box.specs.Showing.{LinkView, IsLedTo, AllShow, AllLostFit, place_of}
use Rattle.one_box.specs.Text.{IsReadBack, cluster_text, served_line, transcript_of}
use Rattle.one_box.proofs.Counting.{turn_few}

-- ---- the turns

led_opening : {S : Type 0} (m : Meaning S) (config : Configuration) → IsLedTo m config (opening_course config)
led_opening m config = record { lines = []; is = refl; fit = tt; spelled = grind (arith, common_steps); text = refl; accepts = refl }

module _ {S L : Type 0} (m : Meaning S) (v : LinkView L) (config : Configuration) (ops : List (List ℕ)) (base turns : ℕ) where
  -- where all is told, the call ended as the run of the definition
  observed_by : (now : ℕ) (polls : List (List PollAnswer)) (values : List ℕ) (later : Option (List ℕ)) (r : Result Taken DeviceError)
      (c d : Course) (xs ys : List (code.BoxActor L)) → ReadsTime (Some values) later now
      → AllShow v (opening_nodes base config now (actors_of config) polls) xs → c ≡ opening_course config
      → RunsObserved v m ops turns now later r c xs d ys → EndsAs v (cluster_run m config ops base turns values polls) r d ys
  unfolding cluster_run
  observed_by now polls values later r c d xs ys time shown opens observed =
      let here : RunsObserved v m ops turns now (Some (later_values values)) r c xs d ys =
      subst (λ (o : Option (List ℕ)). RunsObserved v m ops turns now o r c xs d ys) time.1 observed in
      let ns : List BoxActor = opening_nodes base config now (actors_of config) polls in
      let run_here : EndsAs v (turns_from m ops turns c ns now (later_values values)) r d ys = here ns shown in
      let opened : EndsAs v (turns_from m ops turns (opening_course config) ns now (later_values values)) r d ys =
      subst (λ (a : Course). EndsAs v (turns_from m ops turns a ns now (later_values values)) r d ys) opens run_here in
      subst (λ (t : ℕ). EndsAs v (turns_from m ops turns (opening_course config) (opening_nodes base config t (actors_of config) polls) t
      (later_values values)) r d ys) time.0 opened

  module _ (now : ℕ) (to_come : Option (List (List PollAnswer))) (first later : Option (List ℕ)) (c d : Course)
      (xs ys : List (code.BoxActor L)) (time : ReadsTime first later now) (shown : AttachesAll v base config now (actors_of config) to_come xs)
      (opens : c ≡ opening_course config) where
    observed_run : (taken : Taken) → RunsObserved v m ops turns now later (Ok taken) c xs d ys
        → IsObservedRun m v config ops base turns to_come first taken d ys
    observed_run taken observed = by to_come first time shown
      where
        by : (p : Option (List (List PollAnswer))) (t : Option (List ℕ)) → ReadsTime t later now
            → AttachesAll v base config now (actors_of config) p xs → IsObservedRun m v config ops base turns p t taken d ys
        by None t tells shows = tt
        by (Some polls) None tells shows = tt
        by (Some polls) (Some values) tells shows = observed_by now polls values later (Ok taken) c d xs ys tells shows opens observed

    observed_none : RunsObserved v m ops turns now later (Err Failed) c xs d ys → IsNoRun m config ops base turns to_come first
    observed_none observed = by to_come first time shown
      where
        by : (p : Option (List (List PollAnswer))) (t : Option (List ℕ)) → ReadsTime t later now
            → AttachesAll v base config now (actors_of config) p xs → IsNoRun m config ops base turns p t
        by None t tells shows = tt
        by (Some polls) None tells shows = tt
        by (Some polls) (Some values) tells shows = observed_by now polls values later (Err Failed) c d xs ys tells shows opens observed

    -- the turns after all links were attached
    pub turns_run : (r : Result Taken DeviceError) (faults faults_now : ℕ) (det here : List L)
        → RunsObserved v m ops turns now later r c xs d ys → Runs v m ops turns r c xs d ys → AllLostFit v xs
        → map (place_of v) ys ≡ map (place_for base config) (actors_of config) → here ≡ det
        → RunsOr m v config ops base turns to_come first faults faults_now det here r d ys
    turns_run (Ok taken) faults faults_now det here observed runs fits places given = record {
      observed = observed_run taken observed;
      led = runs.goes config (subst (IsLedTo m config) (sym opens) (led_opening m config));
      done = runs.done;
      spent = runs.spent;
      lost = runs.lost fits;
      places = places;
      given = given;
    }
    turns_run (Err Failed) faults faults_now det here observed runs fits places given =
        inr (record { given = given; fault = runs; none = observed_none observed })
    turns_run (Err devices.NoMemory) faults faults_now det here observed runs fits places given = tt

  -- a link that was not attached
  pub unattached : (e : DeviceError) (polls : Option (List (List PollAnswer))) (values : Option (List ℕ)) (faults faults_now : ℕ)
      (det here : List L) (d : Course) (ys : List (code.BoxActor L)) → CountsFor {T = Unit {0}} faults faults_now Failed (Err e)
      → RunsOr m v config ops base turns polls values faults faults_now det here (Err e) d ys
  unattached Failed polls values faults faults_now det here d ys count = inl (rose_where faults faults_now _ count refl)
  unattached devices.NoMemory polls values faults faults_now det here d ys count = tt

-- an attach that failed is told by its error
pub attaches_same : {T U : Type 0} (a b : ℕ) (e : DeviceError) → CountsFor {T = T} a b Failed (Err e)
    → ¬ (let r : Result U DeviceError = Err e in IsErrOf r Failed) → b ≡ a
attaches_same a b Failed count other = absurd (other refl)
attaches_same a b devices.NoMemory count other = count.others (λ failed. cc)

-- ---- the links

module _ {L : Type 0} (v : LinkView L) (xs ys : List (code.BoxActor L)) (places : map (place_of v) ys ≡ map (place_of v) xs) where
  same_count : length ys ≡ length xs
  same_count = sym (length-map ys (place_of v)) ∙ ap length places ∙ length-map xs (place_of v)

  pub holds_same : {A : Type 0} (first last : ℕ) (det there : List A) → Holds first det last there xs → Holds first det last there ys
  holds_same first last det there holds = omega (arith, same_count, holds)

  pub room_same : {A : Type 0} (last : ℕ) (there : List A) → HasRoom last there xs → HasRoom last there ys
  room_same last there room some =
      let more : length there + length xs ≤ last = room (omega (arith, same_count, some)) in
      omega (arith, same_count, more)

pub holds_none : {A L : Type 0} (first : ℕ) (det : List A) (xs : List (code.BoxActor L)) → xs ≡ [] → Holds first det first det xs
holds_none first det xs none = let count : length xs ≡ 0 = ap length none in omega (arith, count)

pub room_none : {A L : Type 0} (first : ℕ) (det : List A) (xs : List (code.BoxActor L)) → xs ≡ [] → HasRoom first det xs
room_none first det xs none some = let count : length xs ≡ 0 = ap length none in absurd (omega (arith, count, some))

-- each link that was attached is given back
pub all_back : {L : Type 0} (first mid last : ℕ) (det here there : List L) (xs : List (code.BoxActor L)) → Holds first det mid here xs
    → last ≡ mid → there ≡ here ++ map (λ x. x.link) xs → last + length det ≡ first + length there
all_back {L} first mid last det here there xs holds same back =
    let links : List L = map (λ (x : code.BoxActor L). x.link) xs in
    let count : length there ≡ length here + length xs =
    ap length back ∙ length-append here links ∙ ap (λ (n : ℕ). length here + n) (length-map xs (λ (x : code.BoxActor L). x.link)) in
    omega (arith, holds, same, count)

-- no more is lost than the links counted
lost_most : {L : Type 0} (v : LinkView L) (n : ℕ) (xs : List (code.BoxActor L)) → AllLostFit v xs
    → lost_after n xs ≤ n + sum (map (λ x. v.losses x.link) xs)
lost_most {L} v n [] fits = omega arith
lost_most {L} v n (x ∷ xs) fits =
    let rest = lost_most v (min (n + x.lost) (2 ^ 64 - 1)) xs fits.1 in
    let one : min x.lost (2 ^ 64 - 1) ≤ v.losses x.link = fits.0 in
    let others : List ℕ = map (λ (y : code.BoxActor L). v.losses y.link) xs in
    let all = sum_by-cons (λ (k : ℕ). k) (v.losses x.link) others in
    let goal : lost_after (min (n + x.lost) (2 ^ 64 - 1)) xs ≤ n + sum (v.losses x.link ∷ others) = omega (arith, rest, one, all) in
    goal

-- ---- how it ends

err_is : (x y : ClusterError) → (let r : Result Boxed ClusterError = Err x in IsErrOf r y) → x ≡ y
err_is x y is = cc

module _ {S L : Type 0} (m : Meaning S) (v : LinkView L) (config : Configuration) (ops : List (List ℕ)) (base turns : ℕ)
    (polls : Option (List (List PollAnswer))) (values : Option (List ℕ)) (det there : List L) where
  module _ (IsSound : S → Type 0) (keeps : KeepsTo m IsSound) (fits : is_configuration config ≡ true) (d : Course) (taken : Taken)
      (lost : ℕ) (xs : List (code.BoxActor L)) (here : List L) (t : RanTurns m v config ops base turns polls values det here taken d xs)
      (few : length d.events ≤ turns * turn_in config) (lost_is : lost ≡ lost_by xs) (given : there ≡ here ++ map (λ x. x.link) xs) where
    abbrev boxed : Boxed
    boxed = record { turns = taken.turns; lost = lost; stray = d.stray; done = taken.done }

    abbrev happened : Happened
    happened = record { world = d.world; lines = t.led.lines }

    reports_run : (o : Option ClusterRun) (values : List ℕ) (polls : List (List PollAnswer))
        → cluster_run m config ops base turns values polls ≡ o → IsRunIf v o taken d xs
        → Reports m v config ops base turns values polls d.events boxed xs
    reports_run None values polls is r = absurd r
    reports_run (Some whole) values polls is r = record {
      whole = whole;
      is = is;
      kept = ap (λ (c : Course). c.events) r.course;
      taken = r.turns;
      strays = ap (λ (c : Course). c.stray) r.course;
      ends = r.done;
      links = r.nodes;
    }

    reports_of : (p : Option (List (List PollAnswer))) (q : Option (List ℕ)) → IsObservedRun m v config ops base turns p q taken d xs
        → ReportsOf m v config ops base turns p q d.events boxed xs
    reports_of None q r = tt
    reports_of (Some polls) None r = tt
    reports_of (Some polls) (Some values) r = reports_run (cluster_run m config ops base turns values polls) values polls refl r

    ran : Ran m v config ops base turns polls values det there boxed
    ran = record {
      events = d.events;
      happened = happened;
      led = t.led.is;
      safely = runs_are_safe m IsSound keeps config d.events happened fits t.led.fit t.led.is;
      done = t.done ∙ ap (λ (n : ℕ). n == length ops) t.led.accepts;
      spent = t.spent;
      few = let most : turns * turn_in config ≤ turns * most_of_turn = mul-le-mul_left turns (turn_few config fits) in omega (arith, few, most);
      nodes = xs;
      back = given ∙ ap (λ (ls : List L). ls ++ map (λ x. x.link) xs) t.given;
      places = t.places;
      lost = lost_is;
      most = let all = lost_most v 0 xs t.lost in omega (arith, all, lost_is);
      tells = reports_of polls values t.observed;
    }

    abbrev written : List ℕ
    written = cluster_text config d.events d.text d.world taken.turns lost d.stray

    -- the schedule is read as this run
    replays : IsTrue (gives 1 config) → LinesMean d.events → ReplaysWithin m v config ops base turns d.events happened boxed
    unfolding cluster_text transcript_of
    replays form mean room =
        let header : is_header (record { form = 1; config = config }) ≡ true = and_from (gives 1 config) (is_configuration config) form fits in
        let read = prints_again m 1 config d.events happened header t.led.is mean room in
        record {
          read = read;
          parts = ap (λ (o : Output). printed 1 config d.events ++ (o.text ++ served_line taken.turns lost d.stray)) (sym read.written);
        }

    same_text : written ≡ cluster_text config d.events (lines_text t.led.lines) d.world taken.turns lost d.stray
    same_text = ap (λ (ls : List ℕ). cluster_text config d.events ls d.world taken.turns lost d.stray) t.led.text

    all_mean : All IsReadBack d.events → LinesMean d.events
    unfolding IsReadBack
    all_mean read = recursion_from_All LineMeans d.events read

    abbrev Done : Option (List ℕ) → Option (List ℕ) → Boxed → Type 0
    Done before now b = EndsWith m v config ops base turns polls values det there (Ok b) before now

    pub run_ends : IsTrue (gives 1 config) → (r : Result Boxed ClusterError) (before now : Option (List ℕ)) → OnOk r (All IsReadBack d.events)
        → WritesRun written boxed r before now → EndsWith m v config ops base turns polls values det there r before now
    unfolding ran
    run_ends form (Ok told_box) before now mean w =
        let whole : Done before now boxed =
        (ran, subst (Appends before now) same_text w.1, replays form (all_mean mean)) in
        subst (Done before now) (sym w.0) whole
    run_ends form (Err errors.LinkFault) before now mean w = absurd w
    run_ends form (Err errors.WriteFault) before now mean w = (boxed, ran, subst (λ (ls : List ℕ). AppendsPrefix before now ls) same_text w)
    run_ends form (Err errors.NoMemory) before now mean w = inr (boxed, ran, subst (λ (ls : List ℕ). WrotePrefix ls before now) same_text w)

  -- before anything was written
  pub ends_early : (e : DeviceError) (x : ClusterError) (held : Option (List ℕ)) → x ≡ error_of e
      → EndsWith m v config ops base turns polls values det there (Err x) held held
  ends_early e x held is =
      subst (λ (y : ClusterError). EndsWith m v config ops base turns polls values det there (Err y) held held) (sym is) (early e)
    where
      early : (y : DeviceError) → EndsWith m v config ops base turns polls values det there (Err (error_of y)) held held
      early Failed = refl
      early devices.NoMemory = inl refl

  module _ (a b c : ℕ) (here : List L) (d : Course) (xs : List (code.BoxActor L)) (e : DeviceError) (x : ClusterError) (is : x ≡ error_of e)
      (same : c ≡ b) (runs : RunsOr m v config ops base turns polls values a b det here (Err e) d xs) where
    broke_off : (let r : Result Boxed ClusterError = Err x in IsErrOf r errors.LinkFault)
        → Rose a b ⊎ BreaksOff m v config ops base turns polls values det here xs
    broke_off failed = by e (sym is ∙ err_is x errors.LinkFault failed) runs
      where
        by : (y : DeviceError) → error_of y ≡ errors.LinkFault → RunsOr m v config ops base turns polls values a b det here (Err y) d xs
            → Rose a b ⊎ BreaksOff m v config ops base turns polls values det here xs
        by Failed fault r = r
        by devices.NoMemory fault r = absurd cc

    -- a port had no link, or a poll failed
    pub caused : there ≡ here ++ map (λ x. x.link) xs → (let r : Result Boxed ClusterError = Err x in IsErrOf r errors.LinkFault)
        → Rose a c ⊎ PollFailed v det there
    caused back failed = by (broke_off failed)
      where
        by : Rose a b ⊎ BreaksOff m v config ops base turns polls values det here xs → Rose a c ⊎ PollFailed v det there
        by (inl rose) = inl (subst (Rose a) (sym same) rose)
        by (inr f) = inr (record {
          nodes = xs;
          back = back ∙ ap (λ (ls : List L). ls ++ map (λ x. x.link) xs) f.given;
          fault = f.fault;
        })

    -- and then there is no run
    pub no_run : (let r : Result Boxed ClusterError = Err x in IsErrOf r errors.LinkFault)
        → Rose a c ⊎ IsNoRun m config ops base turns polls values
    no_run failed = by (broke_off failed)
      where
        by : Rose a b ⊎ BreaksOff m v config ops base turns polls values det here xs
            → Rose a c ⊎ IsNoRun m config ops base turns polls values
        by (inl rose) = inl (subst (Rose a) (sym same) rose)
        by (inr f) = inr f.none

-- what is no fault of a link in a cluster is none of a device
pub other_error : {T U : Type 0} (e : DeviceError) (x : ClusterError) → x ≡ error_of e
    → ¬ (let r : Result T ClusterError = Err x in IsErrOf r errors.LinkFault) → ¬ (let r : Result U DeviceError = Err e in IsErrOf r Failed)
other_error Failed x is other failed = other (rw is refl)
other_error devices.NoMemory x is other failed = absurd cc

-- before it is written nothing meets a fault of the sink
pub never_written : (e : DeviceError) (x : ClusterError) → x ≡ error_of e
    → (let r : Result Boxed ClusterError = Err x in IsErrOf r errors.WriteFault) → ⊥
never_written e x is failed = by e (sym is ∙ err_is x errors.WriteFault failed)
  where
    by : (y : DeviceError) → error_of y ≡ errors.WriteFault → ⊥
    by Failed fault = cc
    by devices.NoMemory fault = cc

-- what is written meets no fault of a link
pub never_link : (text : List ℕ) (boxed : Boxed) (r : Result Boxed ClusterError) (before now : Option (List ℕ))
    → WritesRun text boxed r before now → IsErrOf r errors.LinkFault → ⊥
never_link text boxed r before now w is = subst (λ (q : Result Boxed ClusterError). WritesRun text boxed q before now) is w
