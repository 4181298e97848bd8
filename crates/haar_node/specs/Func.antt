-- The function of the model that a `Func` is.
use Rattle.tree_model.specs.Functions.{Function}
use Rattle.tree_model.specs.Functions.Function.{Const as ConstFunction, Ramp as RampFunction, Step as StepFunction, Box as BoxFunction, Hash as HashFunction}
use Rattle.haar_node.specs.declared.func.Func.{Func}
use Rattle.haar_node.specs.declared.func.Func.TheVariants.{Const, Ramp, Step, Box, Hash}

abbrev pub function_of : Func → Function
function_of (Const constant) = ConstFunction constant
function_of (Ramp start slope) = RampFunction start slope
function_of (Step edge before behind) = StepFunction edge before behind
function_of (Box start end value) = BoxFunction start end value
function_of (Hash seed modulus) = HashFunction seed modulus
