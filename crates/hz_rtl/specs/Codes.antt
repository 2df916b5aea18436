-- What lists are, as the definitions have it.
use Rattle.hz_rtl.specs.declared.reading.codes.ValueCode.{ValueCode}
use Rattle.hz_rtl.specs.declared.reading.codes.ValueCode.TheVariants as values
use Rattle.hz_rtl.specs.declared.reading.codes.PlaceCode.{PlaceCode}
use Rattle.hz_rtl.specs.declared.reading.codes.PlaceCode.TheVariants as places
use Rattle.hz_rtl.specs.declared.reading.codes.EffectCode.{EffectCode}
use Rattle.hz_rtl.specs.declared.reading.codes.EffectCode.TheVariants as effects
use Rattle.hz_block_model.specs.Texts.Values as model
use Rattle.hz_rtl.specs.Shape.{unary_operator, binary_operator}

abbrev pub value_code : ValueCode → model.ValueCode
value_code values.Reg = model.register_code
value_code values.Const = model.constant_code
value_code values.Mem = model.memory_code
value_code values.Choice = model.choice_code
value_code (values.Unary operator) = model.unary_code (unary_operator operator)
value_code (values.Binary operator) = model.binary_code (binary_operator operator)

abbrev pub target_code : PlaceCode → model.TargetCode
target_code places.Reg = model.into_code
target_code places.Mem = model.cell_code

abbrev pub effect_code : EffectCode → model.EffectCode
effect_code effects.Set = model.set_code
effect_code effects.Clobber = model.clobber_code
effect_code effects.Use = model.use_code
