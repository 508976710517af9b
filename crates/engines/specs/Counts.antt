-- The count of an engine of either kind.
use Rattle.std.specs.Prelude.{ℕ}
use Rattle.engines.specs.declared.AnyEngine.{AnyEngine}
use Rattle.engines.specs.declared.AnyEngine.TheVariants.{Path, Push}

-- the number of runs that the engine inside has made, modulo 2^32
abbrev pub count_of : AnyEngine → ℕ
count_of (Path engine) = engine.runs
count_of (Push engine) = engine.runs
