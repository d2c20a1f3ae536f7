mod Unbegun
