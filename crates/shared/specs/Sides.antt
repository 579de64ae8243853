-- A side as the code has it.
use Rattle.model.specs.Policy.{Side as ModelSide, reading, trust}
use Rattle.shared.specs.declared.side.Side.{Side}
use Rattle.shared.specs.declared.side.Side.TheVariants.{Reading, Trust}

-- the model's side
abbrev pub model_side : Side → ModelSide
model_side Reading = reading
model_side Trust = trust
