use Rattle.tl_words.proofs.number_option.Goals as goal

pub new-requires : goal.new-requires
new-requires c = tt

pub long-requires : goal.long-requires
long-requires c = tt

pub value_name-requires : goal.value_name-requires
value_name-requires c = tt

pub help-requires : goal.help-requires
help-requires c = tt

pub default_value-requires : goal.default_value-requires
default_value-requires c = tt
