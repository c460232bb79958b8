-- own: how far a run is, in the code's words.
use Rattle.machine_model.specs.Streams.{RunState, Coming, Live, Over}
use Rattle.call_plans.specs.declared.runs.Run.{Run}

-- The same.
abbrev pub run_in : Run → RunState
run_in Run.Coming = Coming
run_in Run.Live = Live
run_in Run.Over = Over
