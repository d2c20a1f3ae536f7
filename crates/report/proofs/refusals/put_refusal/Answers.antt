use Rattle.report.proofs.refusals.put_refusal.Goals as goal

pub returns-in-LineTooLong : goal.returns-in-LineTooLong
returns-in-LineTooLong c = rw c.in-LineTooLong.is c.put.ensures

pub returns-in-TraceTooLong : goal.returns-in-TraceTooLong
returns-in-TraceTooLong c = rw c.in-TraceTooLong.is c.put-in-TraceTooLong.ensures

pub returns-in-NotJson : goal.returns-in-NotJson
returns-in-NotJson c = rw c.in-NotJson.is c.put-in-NotJson.ensures

pub returns-in-NotObject : goal.returns-in-NotObject
returns-in-NotObject c = rw c.in-NotObject.is c.put-in-NotObject.ensures

pub returns-in-UnknownOp : goal.returns-in-UnknownOp
returns-in-UnknownOp c = rw c.in-UnknownOp.is c.put-in-UnknownOp.ensures

pub returns-in-MissingField : goal.returns-in-MissingField
returns-in-MissingField c = rw c.in-MissingField.is c.put_with_field.ensures

pub returns-in-BadField : goal.returns-in-BadField
returns-in-BadField c = rw c.in-BadField.is c.put_with_field-in-BadField.ensures

pub returns-in-IdNotRising : goal.returns-in-IdNotRising
returns-in-IdNotRising c = rw c.in-IdNotRising.is c.put_with_number.ensures

pub returns-in-TooManyObjects : goal.returns-in-TooManyObjects
returns-in-TooManyObjects c = rw c.in-TooManyObjects.is c.put-in-TooManyObjects.ensures

pub returns-in-TooManySlots : goal.returns-in-TooManySlots
returns-in-TooManySlots c = rw c.in-TooManySlots.is c.put-in-TooManySlots.ensures

pub returns-in-NotLive : goal.returns-in-NotLive
returns-in-NotLive c = rw c.in-NotLive.is c.put_with_number-in-NotLive.ensures

pub returns-in-BadSlot : goal.returns-in-BadSlot
returns-in-BadSlot c = rw c.in-BadSlot.is c.put_with_number-in-BadSlot.ensures

pub returns-in-TooManyRoots : goal.returns-in-TooManyRoots
returns-in-TooManyRoots c = rw c.in-TooManyRoots.is c.put-in-TooManyRoots.ensures

pub returns-in-TooManyTypes : goal.returns-in-TooManyTypes
returns-in-TooManyTypes c = rw c.in-TooManyTypes.is c.put-in-TooManyTypes.ensures

pub returns-in-TooDeep : goal.returns-in-TooDeep
returns-in-TooDeep c = rw c.in-TooDeep.is c.put_with_number-in-TooDeep.ensures

pub returns-in-NoRegion : goal.returns-in-NoRegion
returns-in-NoRegion c = rw c.in-NoRegion.is c.put_with_number-in-NoRegion.ensures

pub returns-in-SelfOwned : goal.returns-in-SelfOwned
returns-in-SelfOwned c = rw c.in-SelfOwned.is c.put_with_number-in-SelfOwned.ensures
