-- The names of the engines.
use Rattle.std.specs.Prelude.{◌≡◌, ◌≢◌, ℕ, List, Result, Ok, Err, codes}
use Rattle.engines.specs.declared.AnyEngine.{AnyEngine}
use Rattle.engines.specs.declared.AnyEngine.TheVariants.{Path, Push}
use Rattle.engines.specs.declared.NoEngine.{NoEngine}

-- the text names the engine of the result, which has made no run, or it names none
abbrev pub Names : List ℕ → Result AnyEngine NoEngine → Type 0
Names text (Ok (Path engine)) = (text ≡ codes "path") × (engine.runs ≡ 0)
Names text (Ok (Push engine)) = (text ≡ codes "push") × (engine.runs ≡ 0)
Names text (Err e) = (text ≢ codes "path") × (text ≢ codes "push")
