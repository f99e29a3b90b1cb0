use Rattle.avm_asm.proofs.sizes.+number_len_within.Given as goal

abbrev pub decreases-number_len_within : goal.decreases-number_len_within
decreases-number_len_within l = l.left
