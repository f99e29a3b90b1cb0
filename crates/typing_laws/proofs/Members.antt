-- The members of the library's names are forms and values of their types.
use Rattle.std.proofs.Common.{◌≡◌, ℕ, Bool, true, false, List, [], ◌∷◌, Some, refl, subst}
use Rattle.std.proofs.lemmas.Option.{none-some, same_Some}
use Rattle.std.specs.Prelude.{if◌then◌else◌, bytes_eq}
use Rattle.awst.specs.declared.primitive.Primitive.TheVariants as prim
use Rattle.algopy_library.specs.declared.scalar.Scalar.TheVariants as scalar
use Rattle.algopy_library.specs.declared.row.Row.{Row}
use Rattle.algopy_library.specs.declared.row.Row.TheVariants as row
use Rattle.algopy_library.specs.declared.member.Member.{Member}
use Rattle.algopy_library.specs.Tables.{named_in}
use Rattle.algopy_library.specs.Members.{operations, transaction, globals, members_of, member_named}
use Rattle.typing_laws.proofs.Good.{GoodMember}
use Rattle.typing_laws.proofs.TypeLaws.{scalar_is}
use Rattle.typing_laws.proofs.Forms.{of_number, of_bytes, of_numbers, of_place, of_two_bytes, of_three_numbers, of_places, of_replaced, of_measured, of_bit, of_numbers_two, of_numbers_four}

abbrev GoodRows : List (List ℕ × Member) → Type 0
GoodRows [] = Unit {0}
GoodRows (e ∷ es) = GoodMember e.1 × GoodRows es

operations_good : GoodRows operations
operations_good = (
  of_numbers_two prim.OpAddw refl,
  (
    of_numbers_two prim.OpMulw refl,
    (
      of_measured prim.OpBitlen refl,
      (
        of_number prim.OpItob scalar.Bytes refl,
        (
          of_number prim.OpSqrt scalar.UInt64 refl,
          (
            of_bytes prim.OpSha256 scalar.Bytes refl,
            (
              of_bytes prim.OpSha512Of256 scalar.Bytes refl,
              (
                of_bytes prim.OpBtoi scalar.UInt64 refl,
                (
                  of_number prim.OpBzero scalar.Bytes refl,
                  (
                    of_two_bytes prim.OpConcat scalar.Bytes refl,
                    (
                      of_numbers_four prim.OpDivmodw refl,
                      (
                        of_three_numbers prim.OpDivw scalar.UInt64 refl,
                        (
                          of_numbers prim.OpExp scalar.UInt64 refl,
                          (
                            of_places prim.OpExtract scalar.Bytes refl,
                            (
                              of_place prim.OpExtractUint16 scalar.UInt64 refl,
                              (
                                of_place prim.OpExtractUint32 scalar.UInt64 refl,
                                (
                                  of_place prim.OpExtractUint64 scalar.UInt64 refl,
                                  (
                                    of_bit prim.OpGetbit refl,
                                    (
                                      of_place prim.OpGetbyte scalar.UInt64 refl,
                                      (
                                        of_replaced prim.OpReplace scalar.Bytes refl,
                                        (
                                          of_places prim.OpSetbitBytes scalar.Bytes refl,
                                          (
                                            of_three_numbers prim.OpSetbitUint64 scalar.UInt64 refl,
                                            (
                                              of_places prim.OpSetbyte scalar.Bytes refl,
                                              (
                                                of_numbers prim.OpShl scalar.UInt64 refl,
                                                (
                                                  of_numbers prim.OpShr scalar.UInt64 refl,
                                                  (
                                                    of_places prim.OpSubstring scalar.Bytes refl,
                                                    (
                                                      tt,
                                                      (
                                                        tt,
                                                        (
                                                          tt,
                                                          (
                                                            tt,
                                                            (
                                                              tt,
                                                              (
                                                                tt,
                                                                (
                                                                  tt,
                                                                  (
                                                                    tt,
                                                                    (
                                                                      tt,
                                                                      (
                                                                        tt,
                                                                        (
                                                                          tt,
                                                                          (
                                                                            tt,
                                                                            (
                                                                              tt,
                                                                              (
                                                                                tt,
                                                                                tt,
                                                                              ),
                                                                            ),
                                                                          ),
                                                                        ),
                                                                      ),
                                                                    ),
                                                                  ),
                                                                ),
                                                              ),
                                                            ),
                                                          ),
                                                        ),
                                                      ),
                                                    ),
                                                  ),
                                                ),
                                              ),
                                            ),
                                          ),
                                        ),
                                      ),
                                    ),
                                  ),
                                ),
                              ),
                            ),
                          ),
                        ),
                      ),
                    ),
                  ),
                ),
              ),
            ),
          ),
        ),
      ),
    ),
  ),
)

transaction_good : GoodRows transaction
transaction_good = (
  (refl, scalar_is scalar.Account),
  (
    (refl, scalar_is scalar.UInt64),
    (
      (refl, scalar_is scalar.Bytes),
      (
        (refl, scalar_is scalar.UInt64),
        (
          (refl, scalar_is scalar.UInt64),
          (
            (refl, refl),
            (
              of_number prim.TxnApplicationArgs scalar.Bytes refl,
              tt,
            ),
          ),
        ),
      ),
    ),
  ),
)

globals_good : GoodRows globals
globals_good = (
  (refl, scalar_is scalar.Account),
  (
    (refl, scalar_is scalar.Account),
    (
      (refl, scalar_is scalar.UInt64),
      (
        (refl, scalar_is scalar.UInt64),
        (
          (refl, refl),
          tt,
        ),
      ),
    ),
  ),
)

rows_good : (r : Row) → GoodRows (members_of r)
rows_good row.Op = operations_good
rows_good row.Txn = transaction_good
rows_good row.Global = globals_good
rows_good row.OnCompleteAction = (tt, (tt, (tt, (tt, (tt, (tt, tt))))))
rows_good row.Bytes = (tt, (tt, tt))
rows_good row.UInt64 = (tt, tt)
rows_good row.Bool = (tt, tt)
rows_good row.Text = (tt, tt)
rows_good row.Account = (tt, tt)
rows_good row.Tuple = (tt, tt)
rows_good row.Typing = (tt, tt)
rows_good _ = tt

named_good_by : (e : List ℕ × Member) (es : List (List ℕ × Member)) (n : List ℕ) (m : Member) (b : Bool) → GoodMember e.1 → (named_in es n ≡ Some m → GoodMember m) → (if b then Some e.1 else named_in es n) ≡ Some m → GoodMember m
named_good_by e es n m true g h k = subst GoodMember (same_Some e.1 m k) g
named_good_by e es n m false g h k = h k

named_good : (es : List (List ℕ × Member)) (n : List ℕ) (m : Member) → GoodRows es → named_in es n ≡ Some m → GoodMember m
named_good [] n m g h = absurd (none-some m h)
named_good (e ∷ es) n m g h = named_good_by e es n m (bytes_eq e.0 n) g.0 (named_good es n m g.1) h

pub member_named_good : (r : Row) (n : List ℕ) (m : Member) → member_named r n ≡ Some m → GoodMember m
unfolding member_named
member_named_good r n m h = named_good (members_of r) n m (rows_good r) h
